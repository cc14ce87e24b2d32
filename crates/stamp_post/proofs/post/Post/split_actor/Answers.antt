use Rattle.std.proofs.Common.{◌<◌, ap, sym, ◌∙◌, arith}
use Rattle.stamp_post.proofs.Known.{actor_split}
use Rattle.stamp_post.specs.Views.{here_in, seats_in, receipts_in}
use Rattle.stamp_post.proofs.post.Post.split_actor.Goals as goal

pub split_seat-seat-requires : goal.split_seat-seat-requires
split_seat-seat-requires c =
    let v = c.first.inside.seat.me.0 in
    let few : c.first.inside.made < c.self.inside.table.shared.key = omega (
      arith,
      ap (λ d. d.made) c.first.view_is,
      ap (λ p. p.actors) c.self.view_is,
      c.requires.few,
    ) in (
      ap (λ d. d.post.table) c.first.view_is ∙ ap (λ p. p.table) c.requires.post
          ∙ sym (ap (λ p. p.table) c.self.view_is),
      omega (arith, c.self.invariant.0),
      actor_split c.self.inside.table.shared.key c.first.inside.seat.id c.first.inside.made (here_in v) (seats_in v)
          (receipts_in v) v (ap (λ m. m.0) c.first.invariant) few,
    )
