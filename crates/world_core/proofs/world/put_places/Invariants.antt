use Rattle.std.proofs.Common.{◌≡◌, ◌+◌, ◌-◌, ◌≤◌, ◌++◌}
use Rattle.world_core.specs.inside.Flows.{places_from}
use Rattle.world_core.proofs.world.put_places.Given as goal

abbrev pub invariant-loop-place : goal.invariant-loop-place
invariant-loop-place l = record {
  bag : l.bag.items ≡ l.initial.bag.items ++ places_from l.from (l.place - l.from);
  room : l.bag.room + l.place ≡ l.initial.bag.room + l.from;
  up : l.from ≤ l.place;
}
