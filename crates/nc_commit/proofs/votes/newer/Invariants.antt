use Rattle.std.proofs.Common.{◌≡◌, drop}
use Rattle.nc_commit.specs.Votes.{newer_in}
use Rattle.nc_commit.proofs.votes.newer.Given as goal

abbrev pub invariant-loop-op : goal.invariant-loop-op
invariant-loop-op l = newer_in l.v (drop l.op-index l.ops) l.items ≡ newer_in l.v l.ops l.items
