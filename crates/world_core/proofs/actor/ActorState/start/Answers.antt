use Rattle.std.proofs.Common.{arith}
use Rattle.world_core.proofs.First.{first_node}
use Rattle.world_core.proofs.actor.ActorState.start.Goals as goal

pub returns-then-actor-nodes : goal.returns-then-actor-nodes
returns-then-actor-nodes c =
    first_node c.args.script.now c.args.actor.0 c.in_ok-start.field-0 (omega (arith, c.if-actor-nodes.true, c.nodes-nodes.ensures.nodes)) c.in_ok-start.ensures.start c.in_ok-start.ensures.script
