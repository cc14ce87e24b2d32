use Rattle.std.proofs.Common.{ap, sym, ◌∙◌, arith}
use Rattle.stamp_post.proofs.Known.{receipt_join}
use Rattle.stamp_post.specs.Views.{here_in, seats_in, receipts_in, own_in, posting_in}
use Rattle.stamp_post.proofs.post.Post.join_receipt.Goals as goal

pub join_seat-requires : goal.join_seat-requires
join_seat-requires c =
    let v = c.first.inside.seat.me.0 in
    let w = c.receipt.inside.seat.me.0 in (
      ap (λ d. d.post.table) c.first.view_is ∙ ap (λ p. p.table) c.requires.post.0
          ∙ sym (ap (λ p. p.table) c.self.view_is),
      ap (λ d. d.post.table) c.receipt.view_is ∙ ap (λ p. p.table) c.requires.post.1
          ∙ sym (ap (λ p. p.table) c.self.view_is),
      ap (λ m. m.1) c.receipt.invariant.0,
      omega (arith, c.self.invariant.0),
      receipt_join c.self.inside.table.shared.key c.first.inside.seat.id c.first.inside.made (here_in v) (seats_in v)
          (receipts_in v) c.receipt.inside.seat.id c.receipt.inside.number (own_in w)
          (posting_in w) c.receipt.inside.place v w
          (ap (λ m. m.0) c.first.invariant) (ap (λ m. m.0) c.receipt.invariant.0),
    )
