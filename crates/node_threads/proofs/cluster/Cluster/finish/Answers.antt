use Rattle.std.proofs.Common.{ap, sym, ◌∙◌, subst}
use Rattle.history_merge.specs.Merging.{NumberedBy}
use Rattle.history_merge.specs.OwnLogs.{LogData}
use Rattle.history_merge.proofs.Parts.{numbered_as}
use Rattle.node_threads.specs.Cells.{CellData, cell_data, entries_in}
use Rattle.node_threads.proofs.AllEntries.{entries_of_logs}
use Rattle.node_threads.proofs.cluster.Cluster.finish.Goals as goal

pub gathered-requires-clause-order : goal.gathered-requires-clause-order
gathered-requires-clause-order g c =
    let all = c.is_whole.ensures.0 c.if-not-is_whole.false in
    numbered_as (λ (x : CellData). x.number) (λ (l : LogData). cell_data l.number l.entries) 0 c.logs_of-logs.result.items
    (subst (NumberedBy (λ (x : CellData). x.number) 0) (c.as_slice.ensures.value ∙ sym c.logs_of-logs.ensures) all.order)

pub gathered-requires-clause-whole : goal.gathered-requires-clause-whole
gathered-requires-clause-whole g c =
    let all = c.is_whole.ensures.0 c.if-not-is_whole.false in
    sym c.count.ensures ∙ all.whole ∙ ap entries_in (c.as_slice.ensures.value ∙ sym c.logs_of-logs.ensures)
    ∙ entries_of_logs c.logs_of-logs.result.items
