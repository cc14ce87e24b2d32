use Rattle.tree_laws.proofs.decided.AptDecisions.{letters_carry_versions as carry}
use Rattle.run_laws.proofs.each_tree.EveryApt.{all_apt}
use Rattle.run_laws.proofs.trees.letters_carry_versions.Goals as goal

pub returns : goal.returns
returns c = λ s past valid run. carry s past valid (all_apt s past valid run) run
