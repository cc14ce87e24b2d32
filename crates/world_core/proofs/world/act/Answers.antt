use Rattle.tree_step.specs.Meant.{out_in}
use Rattle.world_core.proofs.Doing.{acted_at, stays_at}
use Rattle.world_core.proofs.world.act.Goals as goal

pub returns-clause-acted : goal.returns-clause-acted
returns-clause-acted c =
    acted_at c.args.actor.0 c.args.plan c.args.scratch.now c.args.actors.now.items c.index_mut-state.result.now
    c.actor_done.new.state (out_in c.actor_done.new.scratch) c.actor_done.result c.requires.here
    c.index_mut-state.ensures.value c.actor_done.ensures.done

pub returns-clause-err : goal.returns-clause-err
returns-clause-err c =
    stays_at c.args.actor.0 c.args.actors.now.items c.index_mut-state.result.now c.actor_done.new.state
    c.actor_done.result c.index_mut-state.ensures.value c.actor_done.ensures.err
