use Rattle.std.proofs.Common.{◌≡◌, drop}
use Rattle.nc_locks.specs.Locks.{met_in}
use Rattle.nc_commit.specs.Votes.{wanted_by}
use Rattle.nc_commit.proofs.votes.conflict.Given as goal

abbrev pub invariant-loop-op : goal.invariant-loop-op
invariant-loop-op l =
    met_in l.tree (wanted_by (drop l.op-index l.ops)) l.locks ≡ met_in l.tree (wanted_by l.ops) l.locks
