use Rattle.std.proofs.Common.{sym, ◌∙◌, refl}
use Rattle.board_judge.proofs.Voting.{but_cause, cast_strict, decide_vote, no_ballot}
use Rattle.board_judge.proofs.votes.is_move.Goals as goal

pub returns-then-not-moves : goal.returns-then-not-moves
returns-then-not-moves c = λ h xs midway. (
  (λ never. absurd (cc never)),
  (λ move. absurd (c.moves.ensures.no c.if-not-moves.true h xs midway.view.board
      (but_cause c.args.before.now.basis.now.script.now h h xs c.args.node.0 c.args.act.now move))),
)

pub returns-in_default : goal.returns-in_default
returns-in_default c = λ h xs midway. (
  (λ so. no_ballot c.args.before.now.basis.now.script.now h xs c.args.node.0 c.args.act.now (sym c.ballot_of.ensures ∙ c.in_default.is)
      (c.moves.ensures.yes c.if-not-moves.false h xs midway.view.board)),
  (λ move. refl),
)

pub returns : goal.returns
returns c = λ h xs midway.
    let but = c.moves.ensures.yes c.if-not-moves.false h xs midway.view.board in
    let named = sym c.ballot_of.ensures ∙ c.in-Some.is in
    decide_vote c.args.before.now.basis.now.script.now h xs c.args.node.0 c.args.act.now c.in-Some.ballot c.in_ok-cause.cause c.same_cause.result named but
    (c.in_ok-cause.ensures h xs midway (cast_strict c.args.before.now.basis.now.script.now h xs c.args.node.0 c.args.act.now c.in-Some.ballot named but))
    c.same_cause.ensures
