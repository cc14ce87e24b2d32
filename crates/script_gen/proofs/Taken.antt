-- What is taken by all conditions isn't refused for a reason.
use Rattle.tx_trees.proofs.Passes.{item_passes, op_passes, sub_passes, tree_passes}

pub ruleset taking = (item_passes, op_passes, sub_passes, tree_passes)
