use Rattle.std.proofs.Common.{take}
use Rattle.nc_locks.specs.inside.Found.{AreTaken}
use Rattle.nc_locks.proofs.locks.Locks.take_all.Given as goal

abbrev pub invariant-loop-lock : goal.invariant-loop-lock
invariant-loop-lock l = AreTaken (take l.lock-index l.locks) l.initial.self l.self
