use Rattle.tree_laws.proofs.stages.AptStagesRun.{stages_of_trees}
use Rattle.run_laws.proofs.each_tree.EveryApt.{all_apt}
use Rattle.run_laws.proofs.trees.trees_go_by_stages.Goals as goal

pub returns : goal.returns
returns c = λ s past t valid run lt. stages_of_trees s past valid (all_apt s past valid run) run t lt
