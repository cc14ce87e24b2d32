use Rattle.std.proofs.Common.{◌≡◌}
use Rattle.actor_schedule.specs.Desks.{empty_trays}
use Rattle.actor_schedule.proofs.desk.Desk.new.Given as goal

abbrev pub invariant-loop-actor : goal.invariant-loop-actor
invariant-loop-actor g l = l.trays.items ≡ empty_trays l._actor
