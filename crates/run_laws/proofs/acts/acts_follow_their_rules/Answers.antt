use Rattle.run_laws.proofs.act_order.Rules.{follows_rules}
use Rattle.run_laws.proofs.acts.acts_follow_their_rules.Goals as goal

pub returns : goal.returns
returns c = λ s past valid run. (follows_rules s past valid run).acts
