use Rattle.std.proofs.Common.{◌≡◌, drop}
use Rattle.nc_commit.specs.Decisions.{can_apply}
use Rattle.nc_commit.proofs.decisions.may_apply_ops.Given as goal

abbrev pub invariant-loop-op : goal.invariant-loop-op
invariant-loop-op l = can_apply l.v (drop l.op-index l.ops) l.items ≡ can_apply l.v l.ops l.items
