use Rattle.std.proofs.Common.{[], ap, ◌∙◌, get_or}
use Rattle.board_judge.specs.Views.{UsersData}
use Rattle.board_judge.proofs.Against.{newest_here}
use Rattle.board_judge.proofs.standing.NodeView.newest.Goals as goal

pub returns : goal.returns
returns c = λ xs view there strict.
    c.max.ensures
    ∙ newest_here c.args.self.now.script.now xs c.args.self.now.board.now c.args.self.now.users.now view c.args.self.now.node.0 0 c.args.item.0 there c.newest_by-update.result c.newest_by-strict.result
    c.on.result.now c.on-2.result.now strict
    (c.on.ensures ∙ ap (λ (u : UsersData). get_or u.strict c.args.item.0 []) c.users.view_is)
    (c.on-2.ensures ∙ ap (λ (u : UsersData). get_or u.updates c.args.item.0 []) c.users.view_is)
    (c.newest_by-strict.ensures xs view.board) (c.newest_by-update.ensures xs view.board)
