use Rattle.std.proofs.Common.{◌+◌, ◌-◌, ◌^◌, length}
use Rattle.world_core.specs.Actors.{IsWorldOf}
use Rattle.sim_runner.specs.Pickers.{IsPickedBy}
use Rattle.sim_runner.proofs.Picked.{IsAfter}
use Rattle.sim_runner.proofs.simulation.simulate_by.Given as goal

abbrev pub invariant-loop-world : goal.invariant-loop-world
invariant-loop-world g l = record {
  world : IsWorldOf l.script l.world;
  picked : IsPickedBy g.P.Picker.place g.P.Picker.after l.script l.initial.picker l.world.history;
  after : IsAfter g.P.Picker.place g.P.Picker.after l.script l.initial.picker l.world.history l.picker;
}

abbrev pub decreases-loop-world : goal.decreases-loop-world
decreases-loop-world g l = 2 ^ 40 + 1 - length l.world.history
