use Rattle.std.proofs.Common.{◌≡◌, List, ap, ◌∙◌, slice_set, get_or, arith}
use Rattle.letter_types.specs.declared.acts.Act.{Act}
use Rattle.board_model.specs.inside.Ballots.{with_act}
use Rattle.board_model.proofs.Rows.{on_row_there}
use Rattle.board_model.proofs.ballots.add_on.Goals as goal

pub returns-in_ok-add : goal.returns-in_ok-add
returns-in_ok-add c =
    let row : c.add.new.self ≡ with_act c.args.act.now (get_or c.args.rows.now.items c.args.tree.0 c.index_mut.result.now)
    = c.in_ok-add.ensures ∙ ap (λ (one : List Act). with_act c.args.act.now one) c.index_mut.ensures.value in
    ap (λ (one : List Act). slice_set c.args.rows.now.items c.args.tree.0 one) row
    ∙ on_row_there c.args.tree.0 (with_act c.args.act.now) c.args.rows.now.items c.index_mut.result.now (omega arith)
