use Rattle.std.proofs.Common.{◌≡◌, ◌+◌, ◌-◌}
use Rattle.std.specs.Prelude.{find}
use Rattle.actor_schedule.specs.Schedules.{first_ready, may_be_given, in_turn}
use Rattle.actor_schedule.proofs.schedule.Schedule.first_ready.Given as goal

-- the first is among those from here on
abbrev pub invariant-loop-later : goal.invariant-loop-later
invariant-loop-later l = record {
  among : first_ready l.self l.from l.actors l.fn.worker
      ≡ find (may_be_given l.self l.fn.worker) (in_turn l.actors (l.from + l.later) (l.actors - l.later));
  worker : l.worker ≡ l.fn.worker;
}
