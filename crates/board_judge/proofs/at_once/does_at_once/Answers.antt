use Rattle.std.proofs.Common.{◌==◌, ℕ, ap, sym, ◌∙◌}
use Rattle.board_judge.proofs.Answering.{decide_asked, decide_unasked}
use Rattle.board_judge.proofs.at_once.does_at_once.Goals as goal

pub returns-in_default : goal.returns-in_default
returns-in_default c = λ xs view.
    decide_unasked c.args.view.now.script.now xs c.args.view.now.node.0 c.args.acts.now c.args.body.now _ (sym c.asked_of.ensures ∙ c.in_default.is)
    (ap (λ (n : ℕ). n == 0) c.count_parkings.ensures)

pub returns : goal.returns
returns c = λ xs view.
    decide_asked c.args.view.now.script.now xs c.args.view.now.node.0 c.args.acts.now c.args.body.now c.in-Some.asked c.in_way-way.result c.is_answered.result
    (sym c.asked_of.ensures ∙ c.in-Some.is) (c.in_way-way.ensures xs view) c.is_answered.ensures
