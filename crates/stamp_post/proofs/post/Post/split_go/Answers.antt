use Rattle.std.proofs.Common.{◌≡◌, ap, sym, ◌∙◌, arith, Option, Some}
use Rattle.stamp_post.proofs.Known.{go_split}
use Rattle.stamp_post.specs.Views.{here_in, seats_in, receipts_in}
use Rattle.letter_types.specs.declared.entries.Letter.{Letter}
use Rattle.stamp_post.specs.declared.rule.View.TheVariants.{Gathering}
use Rattle.stamp_post.proofs.post.Post.split_go.Goals as goal

pub split_seat-seat-requires : goal.split_seat-seat-requires
split_seat-seat-requires c =
    let v = c.first.inside.seat.me.0 in
    let here : here_in v ≡ Some c.args.letter = ap (λ d. d.here) c.first.view_is ∙ c.requires.here in (
      ap (λ d. d.post.table) c.first.view_is ∙ ap (λ p. p.table) c.requires.post
          ∙ sym (ap (λ p. p.table) c.self.view_is),
      omega (arith, c.self.invariant.0),
      go_split c.self.inside.table.shared.key c.first.inside.seat.id c.first.inside.made c.args.letter (seats_in v)
          (receipts_in v) v
          (ap (λ m. m.0) c.first.invariant ∙ ap (λ (f : Option Letter). Gathering c.first.inside.made f (seats_in v)
          (receipts_in v)) here),
    )
