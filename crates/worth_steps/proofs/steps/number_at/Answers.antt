use Rattle.std.proofs.Common.{◌∙◌, ap}
use Rattle.worth_steps.specs.inside.Editing.{number_below}
use Rattle.worth_steps.proofs.Placing.{seen_below}
use Rattle.worth_steps.proofs.steps.number_at.Goals as goal

pub returns : goal.returns
returns c = λ up.
    c.number_below.ensures
    ∙ ap (λ p. number_below c.args.first.now p c.args.steps.now) (c.steps_up_to.ensures.place up)
    ∙ seen_below c.args.first.now c.args.version.0 c.args.steps.now
