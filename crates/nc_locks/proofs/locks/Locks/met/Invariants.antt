use Rattle.std.proofs.Common.{◌≡◌, drop}
use Rattle.nc_locks.specs.Locks.{met_in}
use Rattle.nc_locks.proofs.locks.Locks.met.Given as goal

abbrev pub invariant-loop-item : goal.invariant-loop-item
invariant-loop-item l = met_in l.tree l.wanted l.self ≡ met_in l.tree (drop l.item-index l.wanted) l.self
