use Rattle.std.proofs.Common.{◌==◌, ℕ, ap, sym, ◌∙◌}
use Rattle.board_judge.proofs.Answering.{decide_many, decide_none_parked, decide_parked}
use Rattle.board_judge.proofs.at_once.is_parked_as.Goals as goal

pub returns-in_default : goal.returns-in_default
returns-in_default c =
    decide_none_parked c.args.asked.tree c.args.asked.sub c.args.acts.now c.args.way _ (sym c.lock_in.ensures ∙ c.in_default.is)
    (ap (λ (n : ℕ). n == 0) c.count_parkings-parkings.ensures)

pub returns-then-parkings-ne1 : goal.returns-then-parkings-ne1
returns-then-parkings-ne1 c =
    decide_many c.args.asked.tree c.args.asked.sub c.in-Some.lock c.args.acts.now c.args.way (sym c.lock_in.ensures ∙ c.in-Some.is)
    (λ one. c.if-parkings-ne1.true (c.count_parkings-parkings.ensures ∙ one))

pub returns : goal.returns
returns c =
    decide_parked c.args.asked.tree c.args.asked.sub c.in-Some.lock c.args.acts.now c.args.way c.any_parks.result (sym c.lock_in.ensures ∙ c.in-Some.is)
    (sym c.count_parkings-parkings.ensures ∙ c.if-parkings-ne1.false) c.any_parks.ensures
