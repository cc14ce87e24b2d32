use Rattle.std.proofs.Common.{ℕ, [], subst, sym, arith}
use Rattle.world_core.specs.Actors.{IsStateOf}
use Rattle.world_core.proofs.First.{states_more}
use Rattle.world_core.proofs.world.first_actors.Goals as goal

pub loop-actor-preserved : goal.loop-actor-preserved
loop-actor-preserved c =
    let inv = c.loop-actor.invariant in
    let one = subst (λ (n : ℕ). IsStateOf c.args.script.now [] n c.in_ok-start.field-0) (sym inv.count) c.in_ok-start.ensures in
    record {
      count = omega (arith, c.in_ok-push.ensures.len, inv.count);
      states = rw c.in_ok-push.ensures.items (states_more c.args.script.now [] c.loop-actor.actors.items c.in_ok-start.field-0 inv.states one);
    }
