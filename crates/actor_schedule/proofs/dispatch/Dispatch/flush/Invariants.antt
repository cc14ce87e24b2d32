use Rattle.std.proofs.Common.{◌≡◌, ◌++◌, drop}
use Rattle.actor_schedule.specs.Desks.{empty_trays}
use Rattle.actor_schedule.proofs.dispatch.Dispatch.flush.Given as goal

abbrev pub invariant-loop-actor : goal.invariant-loop-actor
invariant-loop-actor g l = record {
  hand : l.desk-inside.hand ≡ l.fn.desk.hand;
  trays : l.desk-inside.trays.items ≡ empty_trays l.actor ++ drop l.actor l.fn.desk.trays;
}
