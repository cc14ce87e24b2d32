use Rattle.tx_trees.proofs.UndoneTrees.{undone_valid}
use Rattle.tree_undo.proofs.laws.an_undone_tree_is_a_tree.Goals as goal

pub returns : goal.returns
returns c = undone_valid
