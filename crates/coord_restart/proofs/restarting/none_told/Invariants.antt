use Rattle.std.proofs.Common.{◌≡◌, replicate, None}
use Rattle.coord_restart.proofs.restarting.none_told.Given as goal

abbrev pub invariant-loop : goal.invariant-loop
invariant-loop l = l.told ≡ replicate l.counter None
