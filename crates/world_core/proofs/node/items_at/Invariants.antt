use Rattle.std.proofs.Common.{◌≡◌, ◌++◌, drop}
use Rattle.item_versions.specs.Table.{IsAfter}
use Rattle.item_versions.specs.Window.{IsWindowedTable}
use Rattle.world_model.specs.Node.{items_at}
use Rattle.world_core.proofs.node.items_at.Given as goal

abbrev pub invariant-loop-x : goal.invariant-loop-x
invariant-loop-x l = record {
  so_far : l.table ++ items_at l.node.0 l.x (drop l.x l.items) ≡ items_at l.node.0 0 l.items;
  after : IsAfter (record { 0 = l.x }) l.table;
  window : IsWindowedTable 0 l.table;
}
