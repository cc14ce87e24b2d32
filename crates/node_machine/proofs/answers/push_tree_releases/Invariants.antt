use Rattle.std.proofs.Common.{◌≡◌, ◌++◌}
use Rattle.letter_types.specs.declared.bodies.Body.TheVariants.{Release}
use Rattle.tx_trees.specs.ScriptData.{visited}
use Rattle.world_model.specs.Strict.{to_each}
use Rattle.node_machine.proofs.answers.push_tree_releases.Given as goal

-- a message to each node so far that the tree visits
abbrev pub invariant-loop-to : goal.invariant-loop-to
invariant-loop-to l = l.sent ≡ l.initial.sent ++ to_each (Release l.tree) (visited l.subs l.to)
