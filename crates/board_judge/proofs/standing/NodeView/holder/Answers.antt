use Rattle.std.proofs.Common.{[], ap, sym, ◌∙◌, get_or}
use Rattle.board_judge.specs.Views.{UsersData}
use Rattle.board_judge.proofs.Against.{marked_holder, other_holder}
use Rattle.board_judge.proofs.standing.NodeView.holder.Goals as goal

pub returns-then-is_mark : goal.returns-then-is_mark
returns-then-is_mark c = λ xs view there may.
    marked_holder c.args.self.now.script.now xs c.args.self.now.board.now c.args.self.now.users.now view c.args.self.now.node.0 c.args.need.tree.0 c.args.item.0 there
    c.args.need.mode c.first_against-strict.result c.on.result.now (sym c.is_mark.ensures ∙ c.if-is_mark.true)
    (c.on.ensures ∙ ap (λ (u : UsersData). get_or u.strict c.args.item.0 []) c.users.view_is) (c.first_against-strict.ensures xs view.board)

pub returns : goal.returns
returns c = λ xs view there may.
    other_holder c.args.self.now.script.now xs c.args.self.now.board.now c.args.self.now.users.now view c.args.self.now.node.0 c.args.need.tree.0 c.args.item.0 there
    c.args.need.mode c.first_against-update.result c.first_against-strict.result c.lesser_number.result c.on.result.now c.on-2.result.now
    (sym c.is_mark.ensures ∙ c.if-is_mark.false) may
    (c.on.ensures ∙ ap (λ (u : UsersData). get_or u.strict c.args.item.0 []) c.users.view_is)
    (c.on-2.ensures ∙ ap (λ (u : UsersData). get_or u.updates c.args.item.0 []) c.users.view_is)
    (c.first_against-strict.ensures xs view.board) (c.first_against-update.ensures xs view.board) c.lesser_number.ensures
