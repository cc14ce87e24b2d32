use Rattle.std.proofs.Common.{◌≡◌, ◌++◌, take}
use Rattle.letter_types.specs.declared.bodies.Body.TheVariants.{Decide}
use Rattle.world_model.specs.Strict.{to_each}
use Rattle.tree_step.specs.CoreChanges.{numbers_of_nodes}
use Rattle.node_machine.proofs.answers.push_decides.Given as goal

-- a message to each node so far
abbrev pub invariant-loop-node : goal.invariant-loop-node
invariant-loop-node l = l.sent ≡ l.initial.sent
    ++ to_each (Decide l.decision.tree l.decision.version l.decision.commit)
    (numbers_of_nodes (take l.node-index l.nodes))
