use Rattle.std.proofs.Common.{sym, ◌∙◌, refl}
use Rattle.board_judge.specs.inside.Users.{stands_against}
use Rattle.board_judge.proofs.Against.{first_found, first_passed, first_none}
use Rattle.board_judge.proofs.standing.NodeView.first_against.Goals as goal

pub loop-user-init : goal.loop-user-init
loop-user-init c = λ xs is. refl

pub returns-then-stands : goal.returns-then-stands
returns-then-stands c = λ xs is.
    first_found (stands_against c.args.self.now.script.now xs c.args.self.now.node.0 c.args.need.tree.0 c.args.need.mode) c.args.users.now c.loop-user.user-index _
    _ c.loop-user-test.true (sym (c.stands.ensures xs is) ∙ c.if-stands.true) (c.loop-user.invariant xs is)

pub loop-user-preserved : goal.loop-user-preserved
loop-user-preserved c = λ xs is.
    first_passed (stands_against c.args.self.now.script.now xs c.args.self.now.node.0 c.args.need.tree.0 c.args.need.mode) c.args.users.now c.loop-user.user-index _
    _ c.loop-user-test.true (sym (c.stands.ensures xs is) ∙ c.if-stands.false) (c.loop-user.invariant xs is)

pub returns : goal.returns
returns c = λ xs is.
    first_none (stands_against c.args.self.now.script.now xs c.args.self.now.node.0 c.args.need.tree.0 c.args.need.mode) c.args.users.now c.loop-user.user-index
    _ c.loop-user-test.false (c.loop-user.invariant xs is)
