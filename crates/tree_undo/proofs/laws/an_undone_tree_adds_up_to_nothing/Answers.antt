use Rattle.tree_undo.proofs.Sums.{undone_even}
use Rattle.tree_undo.proofs.laws.an_undone_tree_adds_up_to_nothing.Goals as goal

pub returns : goal.returns
returns c = undone_even
