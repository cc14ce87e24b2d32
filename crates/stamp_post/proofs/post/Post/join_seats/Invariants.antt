use Rattle.std.proofs.Common.{◌≡◌, All, ◌++◌, map}
use Rattle.stamp_post.specs.Shown.{seat_joined}
use Rattle.stamp_post.specs.Views.{first_data}
use Rattle.stamp_post.proofs.post.Post.join_seats.Given as goal

abbrev pub invariant-loop-seat : goal.invariant-loop-seat
invariant-loop-seat l = record {
  joined : l.first ≡ first_data l.self l.initial.first.made l.initial.first.here
      (l.initial.first.seats ++ map seat_joined l.yielded) l.initial.first.receipts;
  left : All (λ s. s.post ≡ l.self) l.seat-iterator.rest.items;
}
