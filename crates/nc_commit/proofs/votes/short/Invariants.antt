use Rattle.std.proofs.Common.{◌≡◌, drop}
use Rattle.nc_commit.specs.Votes.{short_in}
use Rattle.nc_commit.proofs.votes.short.Given as goal

abbrev pub invariant-loop-op : goal.invariant-loop-op
invariant-loop-op l = short_in l.v (drop l.op-index l.ops) l.items ≡ short_in l.v l.ops l.items
