use Rattle.std.proofs.Common.{List, ◌∙◌, ap, sym}
use Rattle.item_versions.specs.declared.table.StagedOp.{StagedOp}
use Rattle.item_versions.specs.Table.{StagedItems, Table, pending}
use Rattle.item_versions.specs.inside.StagedOps.{copied_over, table_after_staged}
use Rattle.item_versions.proofs.StagedTables.{pending-parts}
use Rattle.item_versions.proofs.table.ItemTable.put_from.Goals as goal

pub returns-clause-table : goal.returns-clause-table
returns-clause-table c =
    let es = c.staged.inside.entries.items in
    let t = c.self.inside.entries.items in
    c.put_copies.ensures.put
    ∙ ap (λ (z : Table). copied_over es z)
    (c.make_all.ensures.made ∙ ap (λ (os : List StagedOp). table_after_staged os t) c.deref.ensures.value)
    ∙ sym (pending-parts es c.staged.inside.ops.items t)
    ∙ ap (λ (u : StagedItems). pending u t) c.staged.view_is
    ∙ ap (λ (z : Table). pending c.args.staged.now z) c.self.view_is
