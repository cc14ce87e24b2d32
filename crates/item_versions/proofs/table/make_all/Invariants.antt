use Rattle.std.proofs.Common.{◌≡◌, drop}
use Rattle.item_versions.specs.Table.{IsTable}
use Rattle.item_versions.specs.inside.StagedOps.{table_after_staged}
use Rattle.item_versions.proofs.table.make_all.Given as goal

-- what the rest makes
abbrev pub invariant-loop-op : goal.invariant-loop-op
invariant-loop-op l = record {
  made : table_after_staged (drop l.op-index l.ops) l.entries.items ≡ table_after_staged l.ops l.initial.entries.items;
  table : IsTable l.entries.items;
}
