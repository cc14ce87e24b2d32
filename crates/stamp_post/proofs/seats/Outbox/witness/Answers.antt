use Rattle.std.proofs.Common.{ap, sym, ◌∙◌, arith}
use Rattle.stamp_post.proofs.Known.{witness_split}
use Rattle.stamp_post.specs.Views.{own_in, posting_in}
use Rattle.stamp_post.proofs.seats.Outbox.witness.Goals as goal

pub split_seat-seat-requires : goal.split_seat-seat-requires
split_seat-seat-requires c =
    let v = c.self.inside.seat.me.0 in (
      ap (λ d. d.post.table) c.self.view_is ∙ ap (λ p. p.table) c.requires ∙ sym (ap (λ p. p.table) c.post.view_is),
      omega (arith, c.post.invariant.0),
      witness_split c.post.inside.table.shared.key c.self.inside.seat.id c.self.inside.number (own_in v)
          (posting_in v) c.self.inside.place v (ap (λ m. m.0) c.self.invariant.0),
    )
