use Rattle.std.proofs.Common.{◌≡◌, take}
use Rattle.nc_locks.specs.Locks.{marks_on}
use Rattle.nc_locks.proofs.public.marks.Given as goal

abbrev pub invariant-loop-item : goal.invariant-loop-item
invariant-loop-item l = l.wanted ≡ marks_on (take l.item-index l.items)
