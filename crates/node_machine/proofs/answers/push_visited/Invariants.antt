use Rattle.std.proofs.Common.{◌≡◌, ◌++◌}
use Rattle.tx_trees.specs.ScriptData.{visited}
use Rattle.tree_step.specs.CoreChanges.{numbers_of_nodes}
use Rattle.node_machine.proofs.answers.push_visited.Given as goal

-- behind what was there, the nodes so far that the tree visits
abbrev pub invariant-loop-node : goal.invariant-loop-node
invariant-loop-node l = numbers_of_nodes l.told ≡ numbers_of_nodes l.initial.told ++ visited l.subs l.node
