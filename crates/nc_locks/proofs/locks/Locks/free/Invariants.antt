use Rattle.std.proofs.Common.{length}
use Rattle.nc_locks.specs.inside.Found.{IsPartlyFree}
use Rattle.nc_locks.proofs.locks.Locks.free.Given as goal

abbrev pub invariant-loop-lock : goal.invariant-loop-lock
invariant-loop-lock l = IsPartlyFree l.tree l.initial.self l.self

abbrev pub decreases-loop-lock : goal.decreases-loop-lock
decreases-loop-lock l = length l.self
