use Rattle.std.proofs.Common.{◌≡◌, ◌≤◌, ◌-◌, ◌^◌, drop}
use Rattle.std.specs.Prelude.{min}
use Rattle.world_model.specs.Restarting.{least_low}
use Rattle.coord_restart.proofs.tellings.least.Given as goal

abbrev pub invariant-loop-t : goal.invariant-loop-t
invariant-loop-t l = (min l.least (least_low (drop l.t-index l.told)) ≡ least_low l.told) × (l.least ≤ 2 ^ 64 - 1)
