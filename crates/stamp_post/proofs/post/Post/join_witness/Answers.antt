use Rattle.std.proofs.Common.{ap, sym, ◌∙◌, arith, length}
use Rattle.stamp_post.proofs.Known.{receipt_join}
use Rattle.stamp_post.specs.Views.{here_in, seats_in, receipts_in, own_in, posting_in}
use Rattle.stamp_post.proofs.post.Post.join_witness.Goals as goal

pub join_seat-requires : goal.join_seat-requires
join_seat-requires c =
    let v = c.first.inside.seat.me.0 in
    let w = c.witness.inside.seat.me.0 in (
      ap (λ d. d.post.table) c.first.view_is ∙ ap (λ p. p.table) c.requires.post.0
          ∙ sym (ap (λ p. p.table) c.self.view_is),
      ap (λ d. d.post.table) c.witness.view_is ∙ ap (λ p. p.table) c.requires.post.1
          ∙ sym (ap (λ p. p.table) c.self.view_is),
      ap (λ m. m.1) c.witness.invariant,
      omega (arith, c.self.invariant.0),
      receipt_join c.self.inside.table.shared.key c.first.inside.seat.id c.first.inside.made (here_in v) (seats_in v)
          (receipts_in v) c.witness.inside.seat.id c.witness.inside.number (own_in w)
          (posting_in w) (length (posting_in w).sent) v w
          (ap (λ m. m.0) c.first.invariant) (ap (λ m. m.0) c.witness.invariant),
    )
