use Rattle.tree_laws.proofs.decided.AptApplied.{applied_where_decided}
use Rattle.run_laws.proofs.each_tree.EveryApt.{all_apt}
use Rattle.run_laws.proofs.trees.decisions_are_applied_once.Goals as goal

pub returns : goal.returns
returns c = λ s past t q commit valid run lt below there. applied_where_decided s past t q commit valid (all_apt s past valid run) run lt below there
