use Rattle.tree_laws.proofs.apt.AptTurns.{turns_come_once as once}
use Rattle.run_laws.proofs.each_tree.EveryApt.{all_apt}
use Rattle.run_laws.proofs.trees.turns_come_once.Goals as goal

pub returns : goal.returns
returns c = λ s past t k x valid run at. once s past t k x valid (all_apt s past valid run) run at
