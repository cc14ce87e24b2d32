use Rattle.std.proofs.Common.{◌≡◌, ◌++◌}
use Rattle.world_model.specs.Coordinator.{to_nodes}
use Rattle.advance_coord.proofs.letters.with_nodes.Given as goal

abbrev pub invariant-loop-node : goal.invariant-loop-node
invariant-loop-node l = l.sent ≡ l.fn.first ++ to_nodes l.node l.body
