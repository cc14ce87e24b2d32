use Rattle.std.proofs.Common.{◌≡◌}
use Rattle.stamp_post.specs.Shown.{new_seats}
use Rattle.stamp_post.specs.Views.{first_data}
use Rattle.stamp_post.proofs.post.Post.split_actors.Given as goal

abbrev pub invariant-loop-number : goal.invariant-loop-number
invariant-loop-number l = record {
  made : l.first ≡ first_data l.self l._number l.initial.first.here l.initial.first.seats l.initial.first.receipts;
  seats : l.seats ≡ new_seats l.self 0 l._number;
}
