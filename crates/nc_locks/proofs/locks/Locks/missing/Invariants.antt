use Rattle.std.proofs.Common.{◌≡◌, take}
use Rattle.nc_locks.specs.inside.Found.{missing_locks}
use Rattle.nc_locks.proofs.locks.Locks.missing.Given as goal

abbrev pub invariant-loop-item : goal.invariant-loop-item
invariant-loop-item l = l.missing.items ≡ missing_locks l.tree (take l.item-index l.wanted) l.self
