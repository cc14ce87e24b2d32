use Rattle.std.proofs.Common.{◌≡◌, [], length}
use Rattle.world_core.specs.Actors.{AreStatesOf}
use Rattle.world_core.proofs.world.first_actors.Given as goal

abbrev pub invariant-loop-actor : goal.invariant-loop-actor
invariant-loop-actor l = record {
  count : length l.actors.items ≡ l.actor;
  states : AreStatesOf l.script [] l.actors.items;
}
