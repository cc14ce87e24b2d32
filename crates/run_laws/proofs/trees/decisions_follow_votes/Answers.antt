use Rattle.tree_laws.proofs.decided.AptVotes.{decided_by_votes}
use Rattle.run_laws.proofs.each_tree.EveryApt.{all_apt}
use Rattle.run_laws.proofs.trees.decisions_follow_votes.Goals as goal

pub returns : goal.returns
returns c = λ s past t valid run lt. decided_by_votes s past t valid (all_apt s past valid run) run lt
