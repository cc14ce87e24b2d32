use Rattle.tree_laws.proofs.decided.AptDecided.{decided_once}
use Rattle.run_laws.proofs.each_tree.EveryApt.{all_apt}
use Rattle.run_laws.proofs.trees.trees_are_decided_once.Goals as goal

pub returns : goal.returns
returns c = λ s past t valid run lt. decided_once s past t valid (all_apt s past valid run) run lt
