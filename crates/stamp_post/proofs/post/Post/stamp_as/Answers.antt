use Rattle.std.proofs.Common.{◌≡◌, ◌<◌, [], ap, sym, ◌∙◌, subst, arith, List, length, Option, Some}
use Rattle.stamp_post.proofs.Known.{stamp_step}
use Rattle.stamp_post.specs.Views.{own_in, taken_in, unsent_in}
use Rattle.stamp_post.specs.Logs.{most}
use Rattle.letter_types.specs.declared.entries.Letter.{Letter}
use Rattle.letter_types.specs.declared.entries.Posting.{Posting}
use Rattle.stamp_post.specs.declared.rule.View.TheVariants.{Acting}
use Rattle.stamp_post.proofs.post.Post.stamp_as.Goals as goal

pub fetch_add-before-requires : goal.fetch_add-before-requires
fetch_add-before-requires g c =
    let v = c.seat.inside.seat.me.0 in
    let has : taken_in v ≡ Some c.args.letter.now = ap (λ d. d.taken) c.seat.view_is ∙ c.requires.taken in
    let room = subst (λ (es : List Posting). length es < most) (sym (ap (λ d. d.own) c.seat.view_is)) c.requires.room
    in (
      ap (λ d. d.post.table) c.seat.view_is ∙ ap (λ p. p.table) c.requires.post
          ∙ sym (ap (λ p. p.table) c.self.view_is),
      omega (arith, c.self.invariant.0),
      stamp_step c.self.inside.table.shared.key c.self.inside.table.shared.table_id.slots c.seat.inside.seat.id
          c.seat.inside.number (own_in v) c.args.letter.now (unsent_in v) g.S.Sends.sent c.seat.inside.seat.me []
          (c.seat.invariant.0 ∙ ap (λ (t : Option Letter). (
            Acting c.seat.inside.number (own_in v) t (unsent_in v),
            [],
          )) has) room,
    )
