use Rattle.std.proofs.Common.{◌≡◌, List, [], ◌++◌, map, sym, ap, ◌∙◌}
use Rattle.std.proofs.lemmas.List.{append-nil, nil_from_length}
use Rattle.history_merge.specs.OwnLogs.{LogData}
use Rattle.node_threads.specs.Cells.{CellData, cell_data}
use Rattle.node_threads.proofs.finishing.logs_of.Goals as goal

pub returns : goal.returns
returns g c =
    let cell_of : LogData → CellData = λ x. cell_data x.number x.entries in
    let left = c.loop-cell.cell-iterator.rest in
    let none : left.items ≡ [] = nil_from_length left.items (sym left.ok.0 ∙ c.in-None.ensures.steps.0) in
    sym (append-nil (map cell_of c.loop-cell.logs.items))
    ∙ ap (λ (cs : List CellData). map cell_of c.loop-cell.logs.items ++ cs) (sym none)
    ∙ c.loop-cell.invariant.same
