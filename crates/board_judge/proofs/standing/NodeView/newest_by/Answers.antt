use Rattle.std.proofs.Common.{◌≡◌, ap, arith, max, ℕ}
use Rattle.std.proofs.lemmas.List.{drop_all}
use Rattle.board_judge.specs.inside.Users.{newest_by}
use Rattle.board_judge.proofs.Against.{newest_on}
use Rattle.board_judge.proofs.standing.NodeView.newest_by.Goals as goal

from_zero : (n : ℕ) → max 0 n ≡ n
from_zero n = omega arith

to_zero : (n m all : ℕ) → m ≡ 0 → max n m ≡ all → n ≡ all
to_zero n m all is so = omega arith

pub loop-user-init : goal.loop-user-init
loop-user-init c = λ xs is. from_zero (newest_by c.args.self.now.script.now xs c.args.self.now.node.0 c.args.users.now)

pub loop-user-preserved : goal.loop-user-preserved
loop-user-preserved c = λ xs is.
    newest_on c.args.self.now.script.now xs c.args.self.now.node.0 c.args.users.now c.loop-user.user-index _ c.loop-user.newest c.newer_by-newest.result
    (newest_by c.args.self.now.script.now xs c.args.self.now.node.0 c.args.users.now) c.loop-user-test.true (c.newer_by-newest.ensures xs is) (c.loop-user.invariant xs is)

pub returns : goal.returns
returns c = λ xs is.
    to_zero c.loop-user.newest _ (newest_by c.args.self.now.script.now xs c.args.self.now.node.0 c.args.users.now)
    (ap (newest_by c.args.self.now.script.now xs c.args.self.now.node.0) (drop_all c.loop-user.user-index c.args.users.now c.loop-user-test.false)) (c.loop-user.invariant xs is)
