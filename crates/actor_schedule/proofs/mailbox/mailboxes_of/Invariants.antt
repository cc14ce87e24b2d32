use Rattle.std.proofs.Common.{◌≡◌, length}
use Rattle.actor_schedule.proofs.mailbox.mailboxes_of.Given as goal

abbrev pub invariant-loop-actor : goal.invariant-loop-actor
invariant-loop-actor g l = length l.mailboxes.items ≡ l._actor
