use Rattle.std.proofs.Common.{◌≡◌, drop}
use Rattle.item_versions.specs.Table.{IsHeldTable, pending}
use Rattle.item_versions.specs.Window.{IsWindowedTable}
use Rattle.tree_step.proofs.updates.stage_ops.Given as goal
use Rattle.world_model.specs.Updates.{table_after_ops, can_touch}

abbrev pub invariant-loop-op : goal.invariant-loop-op
invariant-loop-op l = record {
  can : can_touch l.v (drop l.op-index l.ops) (pending l.staged l.node.items) ≡ can_touch l.v l.ops l.node.items;
  after : table_after_ops l.v (drop l.op-index l.ops) (pending l.staged l.node.items) ≡ table_after_ops l.v l.ops l.node.items;
  held : IsHeldTable (pending l.staged l.node.items);
  fits : IsWindowedTable l.node.turns.low.0 (pending l.staged l.node.items);
}
