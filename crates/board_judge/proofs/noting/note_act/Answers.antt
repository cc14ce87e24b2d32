use Rattle.std.proofs.Common.{sym, ◌∙◌}
use Rattle.board_rules.specs.Gates.{KeepsTo}
use Rattle.board_judge.proofs.Going.{decide_by}
use Rattle.board_judge.proofs.Voting.{but_cause}
use Rattle.board_judge.proofs.noting.note_act.Goals as goal

pub returns-then-not-branch-clause-not : goal.returns-then-not-branch-clause-not
returns-then-not-branch-clause-not c = λ none h xs midway move.
    absurd (cc (sym c.if-not-branch.true ∙ (c.in_ok-is_move.ensures h xs midway).1 move))

pub returns-clause-stepped : goal.returns-clause-stepped
returns-clause-stepped c = λ h xs midway.
    let move = (c.in_ok-is_move.ensures h xs midway).0 c.if-not-branch.false in
    let but = but_cause c.args.before.now.basis.now.script.now h h xs c.args.node.0 c.args.act.now move in
    record {
      moves = move;
      keeps = decide_by (KeepsTo c.args.before.now.basis.now.script.now xs (record { node = c.args.node.0; act = c.args.act.now })) c.keeps-keeps.result
          (λ so. c.keeps-keeps.ensures.yes so midway.gates xs midway.view.board) (λ so. c.keeps-keeps.ensures.no so midway.gates xs midway.view.board);
      right = c.is_right_yes-right.ensures h xs c.args.node.0 midway.view.board midway.known but;
      closes = c.in_ok-noted.ensures.closed h xs midway.view.board but;
      board = c.in_ok-noted.ensures.noted h xs midway.view.board but;
    }
