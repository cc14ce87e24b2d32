use Rattle.std.proofs.Common.{arith, subst, sym}
use Rattle.std.proofs.lemmas.Grind.{common_steps}
use Rattle.item_versions.specs.Table.{IsTable}
use Rattle.item_versions.proofs.StagedTables.{IsTable-in_place}
use Rattle.item_versions.proofs.table.make_all.Goals as goal

pub loop-op-preserved : goal.loop-op-preserved
loop-op-preserved c = record {
  made = grind (arith, common_steps);
  table =
      subst IsTable (sym c.make_op.ensures)
      (IsTable-in_place _ _ _ c.loop-op.entries.items c.loop-op.invariant.table);
}
