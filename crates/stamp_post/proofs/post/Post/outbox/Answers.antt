use Rattle.std.proofs.Common.{◌≡◌, ap, sym, ◌∙◌, arith, Option, Some}
use Rattle.stamp_post.proofs.Known.{outbox_split}
use Rattle.stamp_post.specs.Views.{own_in, taken_in, unsent_in}
use Rattle.letter_types.specs.declared.entries.Posting.{Posting}
use Rattle.stamp_post.specs.declared.rule.View.TheVariants.{Acting}
use Rattle.stamp_post.proofs.post.Post.outbox.Goals as goal

pub split_seat-other-requires : goal.split_seat-other-requires
split_seat-other-requires c =
    let v = c.seat.inside.seat.me.0 in
    let p = c.requires.unsent.0 in
    let is : unsent_in v ≡ Some p = ap (λ d. d.unsent) c.seat.view_is ∙ c.requires.unsent.1 in (
      ap (λ d. d.post.table) c.seat.view_is ∙ ap (λ q. q.table) c.requires.post
          ∙ sym (ap (λ q. q.table) c.self.view_is),
      omega (arith, c.self.invariant.0),
      outbox_split c.self.inside.table.shared.key c.seat.inside.seat.id c.seat.inside.number (own_in v) (taken_in v) p v
          (ap (λ m. m.0) c.seat.invariant.0 ∙ ap (λ (u : Option Posting). Acting c.seat.inside.number (own_in v)
          (taken_in v) u) is),
    )
