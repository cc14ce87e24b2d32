use Rattle.std.proofs.Common.{◌≡◌, drop}
use Rattle.item_versions.specs.inside.StagedOps.{held_after_staged}
use Rattle.item_versions.proofs.table.make_ops.Given as goal

-- what the rest makes
abbrev pub invariant-loop-op : goal.invariant-loop-op
invariant-loop-op l =
    held_after_staged l.item (drop l.op-index l.ops) l.next ≡ held_after_staged l.item l.ops l.initial.next
