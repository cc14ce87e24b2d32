use Rattle.run_laws.proofs.act_order.Rules.{follows_rules}
use Rattle.run_laws.proofs.acts.strict_trees_are_born_late.Goals as goal

pub returns : goal.returns
returns c = λ s past valid run. (follows_rules s past valid run).births
