use Rattle.std.proofs.Common.{◌∙◌}
use Rattle.worth_steps.proofs.Noting.{ordered, shown_is_worth}
use Rattle.worth_steps.proofs.worths.Worths.at.Goals as goal

pub returns-clause-worth : goal.returns-clause-worth
returns-clause-worth c = λ first ns are.
    c.in_ok-value.ensures.shown (ordered first ns c.args.self.now are) ∙ shown_is_worth first ns c.args.self.now c.args.version.0 are
