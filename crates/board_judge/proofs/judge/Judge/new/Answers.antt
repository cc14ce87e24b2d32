use Rattle.board_judge.proofs.Judging.{none_taken}
use Rattle.board_judge.proofs.judge.Judge.new.Goals as goal

pub returns-clause-taken : goal.returns-clause-taken
returns-clause-taken c =
    none_taken c.args.script.now c.in_ok-gates.gates c.in_ok-users.users c.in_ok-board.board c.in_ok-worths.worths.items c.nodes-valid.ensures.valid
    c.in_ok-gates.ensures c.in_ok-users.ensures c.in_ok-board.ensures c.in_ok-worths.ensures.worths
