use Rattle.std.proofs.Common.{◌≡◌, ◌++◌, drop}
use Rattle.world_model.specs.Reads.{gets}
use Rattle.nc_commit.proofs.votes.got.Given as goal

abbrev pub invariant-loop-op : goal.invariant-loop-op
invariant-loop-op l = l.values ++ gets l.v (drop l.op-index l.ops) l.items ≡ gets l.v l.ops l.items
