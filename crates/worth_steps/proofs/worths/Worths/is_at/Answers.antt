use Rattle.std.proofs.Common.{◌∙◌, sym}
use Rattle.worth_steps.proofs.Noting.{ordered, shown_is_worth}
use Rattle.worth_steps.proofs.worths.Worths.is_at.Goals as goal

pub returns-clause-yes : goal.returns-clause-yes
returns-clause-yes c = λ is first ns are.
    sym (shown_is_worth first ns c.args.self.now c.args.version.0 are) ∙ c.shows.ensures.yes is (ordered first ns c.args.self.now are)

pub returns-clause-no : goal.returns-clause-no
returns-clause-no c = λ is first ns are same.
    c.shows.ensures.no is (ordered first ns c.args.self.now are) (shown_is_worth first ns c.args.self.now c.args.version.0 are ∙ same)
