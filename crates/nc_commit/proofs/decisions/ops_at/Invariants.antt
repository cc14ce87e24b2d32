use Rattle.std.proofs.Common.{◌≡◌, ◌++◌, drop}
use Rattle.nc_commit.specs.Decisions.{ops_at}
use Rattle.nc_commit.proofs.decisions.ops_at.Given as goal

abbrev pub invariant-loop-sub : goal.invariant-loop-sub
invariant-loop-sub l = l.ops.items ++ ops_at l.node.0 (drop l.sub-index l.subs) ≡ ops_at l.node.0 l.subs
