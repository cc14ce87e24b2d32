use Rattle.std.proofs.Common.{◌≡◌, ap, sym, ◌∙◌, arith, Option, None}
use Rattle.stamp_post.proofs.Known.{envelope_join}
use Rattle.stamp_post.specs.Views.{own_in, taken_in, unsent_in}
use Rattle.letter_types.specs.declared.entries.Letter.{Letter}
use Rattle.stamp_post.specs.declared.rule.View.TheVariants.{Acting}
use Rattle.stamp_post.proofs.post.Post.take.Goals as goal

pub join_seat-requires : goal.join_seat-requires
join_seat-requires c =
    let v = c.seat.inside.seat.me.0 in
    let other = c.into_parts-other.result.0 in
    let none : taken_in v ≡ None = ap (λ d. d.taken) c.seat.view_is ∙ c.requires.none in
    let home : c.args.envelope.letter.to.0 ≡ c.seat.inside.number = c.requires.addressee
    ∙ sym (ap (λ d. d.number) c.seat.view_is) in (
      ap (λ d. d.post.table) c.seat.view_is ∙ ap (λ p. p.table) c.requires.post.0
          ∙ sym (ap (λ p. p.table) c.self.view_is),
      c.into_parts-other.ensures.table ∙ ap (λ p. p.table) c.requires.post.1
          ∙ sym (ap (λ p. p.table) c.self.view_is),
      ap (λ m. m.1) c.into_parts-other.ensures.seat,
      omega (arith, c.self.invariant.0),
      envelope_join c.self.inside.table.shared.key c.seat.inside.seat.id c.seat.inside.number (own_in v)
          (unsent_in v) other.id c.args.envelope.letter v other.me.0
          (ap (λ m. m.0) c.seat.invariant.0 ∙ ap (λ (t : Option Letter). Acting c.seat.inside.number (own_in v) t
          (unsent_in v)) none) (ap (λ m. m.0) c.into_parts-other.ensures.seat) home,
    )
