use Rattle.std.proofs.Common.{◌≡◌, ◌+◌, ◌≤◌, ◌++◌, length, vec_len, vec_capacity}
use Rattle.letter_types.specs.Letters.{sealed}
use Rattle.run_history.proofs.pushing.move_sent.Given as goal
use Rattle.std.specs.Vec.Iter.{drain_items}

abbrev pub invariant-loop-outgoing : goal.invariant-loop-outgoing
invariant-loop-outgoing l = record {
  sent : l.letters.items ≡ l.initial.letters.items ++ sealed l.stamp.0 l.actor.0 0 l.yielded;
  number : l.number ≡ length l.yielded;
  whole : l.yielded ++ drain_items l.outgoing-iterator ≡ l.fn.sent.items;
  room : vec_len l.letters + length l.fn.sent.items ≤ vec_capacity l.letters + length l.yielded;
}
