use Rattle.std.proofs.Common.{◌≡◌, drop}
use Rattle.std.specs.List.{list_any}
use Rattle.coord_restart.specs.inside.Tests.{passes}
use Rattle.coord_restart.proofs.tellings.some_told.Given as goal

abbrev pub invariant-loop-t : goal.invariant-loop-t
invariant-loop-t l = list_any (passes l.test) (drop l.t-index l.told) ≡ list_any (passes l.test) l.told
