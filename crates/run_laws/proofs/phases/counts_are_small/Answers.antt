use Rattle.run_laws.proofs.each_tree.InTime.{counts_small}
use Rattle.run_laws.proofs.phases.counts_are_small.Goals as goal

pub returns : goal.returns
returns c = λ s past valid run. counts_small s past valid run
