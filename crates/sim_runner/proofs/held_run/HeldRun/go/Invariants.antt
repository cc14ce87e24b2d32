use Rattle.std.proofs.Common.{◌≡◌, false, length, reverse, ◌+◌, ◌-◌, ◌^◌}
use Rattle.growth_laws.specs.Growth.{IsFront}
use Rattle.sim_runner.specs.Held.{IsRunBy}
use Rattle.world_core.specs.Actors.{IsWorldOf}
use Rattle.world_model.specs.Runs.{client_in}
use Rattle.sim_runner.proofs.held_run.HeldRun.go.Given as goal

abbrev pub invariant-loop-self : goal.invariant-loop-self
invariant-loop-self g l = record {
  world : IsWorldOf l.script l.self.world;
  run : (start : g.row.P.Denot) → IsRunBy g.P.Picker.place g.P.Picker.after l.script start l.initial.self
      → IsRunBy g.P.Picker.place g.P.Picker.after l.script start l.self;
  later : IsFront l.initial.self.world.history l.self.world.history;
  unfinished : l.all ≡ false → (client_in l.script (reverse l.initial.self.world.history)).finished ≡ false
      → (client_in l.script (reverse l.self.world.history)).finished ≡ false;
}

abbrev pub decreases-loop-self : goal.decreases-loop-self
decreases-loop-self g l = 2 ^ 40 + 1 - length l.self.world.history
