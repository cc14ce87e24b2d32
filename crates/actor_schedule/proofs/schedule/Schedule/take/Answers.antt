use Rattle.std.proofs.Common.{◌≡◌, ◌∙◌, sym, arith}
use Rattle.std.specs.Prelude.{None}
use Rattle.actor_schedule.specs.Schedules.{first_ready}
use Rattle.actor_schedule.proofs.Turns.{none_ready}
use Rattle.actor_schedule.proofs.schedule.Schedule.take.Goals as goal
use Rattle.actor_schedule.proofs.schedule.Schedule.take.Goals.{then-is_none, else-is_none}

pub returns-in_err-actor-clause-none : goal.returns-in_err-actor-clause-none
returns-in_err-actor-clause-none c =
    let none : first_ready c.args.self.now c.args.from c.args.actors None ≡ None =
    elim c.if-is_none.branch [
      | then-is_none w ↦ sym w.first_ready-found-then-is_none.ensures.first ∙ sym w.found-is ∙ c.in_err-actor.was
      | else-is_none w ↦ grind arith
    ] in
    rw c.from_residual.ensures (none_ready c.args.self.now c.args.from c.args.actors none)
