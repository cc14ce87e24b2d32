use Rattle.std.proofs.Common.{◌≡◌, drop}
use Rattle.item_versions.specs.inside.StagedOps.{has_op}
use Rattle.item_versions.proofs.table.has_op.Given as goal

-- the rest decides
abbrev pub invariant-loop-op : goal.invariant-loop-op
invariant-loop-op l = has_op l.item (drop l.op-index l.ops) ≡ has_op l.item l.ops
