use Rattle.std.proofs.Common.{◌≡◌, All, ◌++◌, map}
use Rattle.stamp_post.specs.Shown.{receipt_joined}
use Rattle.stamp_post.specs.Views.{first_data}
use Rattle.stamp_post.proofs.post.Post.join_receipts.Given as goal

abbrev pub invariant-loop-receipt : goal.invariant-loop-receipt
invariant-loop-receipt l = record {
  joined : l.first ≡ first_data l.self l.initial.first.made l.initial.first.here l.initial.first.seats
      (l.initial.first.receipts ++ map receipt_joined l.yielded);
  left : All (λ r. r.post ≡ l.self) l.receipt-iterator.rest.items;
}
