use Rattle.std.proofs.Common.{rules, ◌≡◌, ◌<◌, ◌+◌, [], suc, drop, ap, sym, ◌∙◌, subst, arith, length, Some}
use Rattle.std.specs.Prelude.{slice_get}
use Rattle.std.proofs.lemmas.Option.{slice_get_within}
use Rattle.letter_types.specs.declared.entries.Letter.{Letter}
use Rattle.letter_types.specs.declared.entries.Outgoing.{Outgoing}
use Rattle.letter_types.specs.Postal.{letters_sent}
use Rattle.stamp_post.specs.declared.rule.View.{View}
use Rattle.stamp_post.specs.Moves.{without_letter}
use Rattle.stamp_post.specs.Shown.{OutboxData, outbox_data, post_id}
use Rattle.stamp_post.specs.Views.{own_in, posting_in}
use Rattle.stamp_post.proofs.Known.{envelope_split, head_there, tail_there, head_of, tail_of, letter_made, envelope_made}
use Rattle.stamp_post.proofs.seats.Outbox.next.Goals as goal

pub split_seat-seat-requires : goal.split_seat-seat-requires
split_seat-seat-requires c =
    let v = c.self.inside.seat.me.0 in
    let left = sym c.self.invariant.3 ∙ c.in-Some.ensures.items in (
      ap (λ d. d.post.table) c.self.view_is ∙ ap (λ p. p.table) c.requires ∙ sym (ap (λ p. p.table) c.post.view_is),
      omega (arith, c.post.invariant.0),
      envelope_split c.post.inside.table.shared.key c.self.inside.seat.id c.self.inside.number (own_in v)
          (posting_in v) c.self.inside.place c.in-Some.out v (ap (λ m. m.0) c.self.invariant.0)
          (head_there (posting_in v).sent c.self.inside.place c.in-Some.out c.pop_front.new.self.items left),
    )

pub invariant_of-result : goal.invariant_of-result
invariant_of-result c =
    let v = c.self.inside.seat.me.0 in
    let left = sym c.self.invariant.3 ∙ c.in-Some.ensures.items in
    let at = head_there (posting_in v).sent c.self.inside.place c.in-Some.out c.pop_front.new.self.items left in (
      c.split_seat-seat.ensures.4
          ∙ ap (λ (w : View). (w, [])) (envelope_made v c.self.inside.number (own_in v)
          (posting_in v) c.self.inside.place c.self.inside.stamp c.in-Some.out
          (ap (λ m. m.0) c.self.invariant.0) c.self.invariant.1 c.self.invariant.2 at),
      head_of (λ (o : Outgoing). o.to.0 < c.self.inside.actors) c.in-Some.out _ _ c.in-Some.ensures.items
          c.self.invariant.5,
    )

pub invariant_of-self-2 : goal.invariant_of-self-2
invariant_of-self-2 c =
    let v = c.self.inside.seat.me.0 in
    let p = posting_in v in
    let left = sym c.self.invariant.3 ∙ c.in-Some.ensures.items in
    let new = ap (λ m. m.0) c.split_seat-seat.ensures.2 ∙ ap (λ m. without_letter m.0) c.self.invariant.0 in
    let on : suc c.self.inside.place ≡ c.self.inside.place + 1 = omega arith in
    let rest = sym (tail_there p.sent c.self.inside.place c.in-Some.out c.pop_front.new.self.items left)
    ∙ ap (λ k. drop k p.sent) on
    ∙ ap (λ (w : View). drop (c.self.inside.place + 1) (posting_in w).sent) (sym new) in (
      search rules,
      search rules,
      search rules,
      rest,
      search rules,
      tail_of (λ (o : Outgoing). o.to.0 < c.self.inside.actors) c.in-Some.out _ _ c.in-Some.ensures.items
          c.self.invariant.5,
    )

pub returns-clause-left : goal.returns-clause-left
returns-clause-left c =
    let left = sym c.self.invariant.3 ∙ c.in-Some.ensures.items in
    let p = posting_in c.self.inside.seat.me.0 in
    subst (λ (d : OutboxData). d.next < length d.posting.sent) c.self.view_is
    (slice_get_within p.sent c.self.inside.place c.in-Some.out
    (head_there p.sent c.self.inside.place c.in-Some.out c.pop_front.new.self.items left))

pub returns-clause-letter : goal.returns-clause-letter
returns-clause-letter c =
    let v = c.self.inside.seat.me.0 in
    let left = sym c.self.invariant.3 ∙ c.in-Some.ensures.items in
    let at = head_there (posting_in v).sent c.self.inside.place c.in-Some.out c.pop_front.new.self.items left in
    let l : Letter = record {
      id = record { stamp = c.self.inside.stamp; place = c.self.inside.place };
      from = record { 0 = c.self.inside.number };
      to = c.in-Some.out.to;
      body = c.in-Some.out.body;
    } in
    subst (λ (d : OutboxData). slice_get (letters_sent d.posting) d.next ≡ Some l) c.self.view_is
    (letter_made (posting_in v) c.self.inside.number c.self.inside.place c.self.inside.stamp c.in-Some.out
    c.self.invariant.1 c.self.invariant.2 at)

pub returns-clause-post : goal.returns-clause-post
returns-clause-post c = ap (λ t. post_id t c.self.inside.actors) c.split_seat-seat.ensures.3
    ∙ ap (λ d. d.post) c.self.view_is

pub returns-clause-out : goal.returns-clause-out
returns-clause-out c =
    let new = ap (λ m. m.0) c.split_seat-seat.ensures.2 ∙ ap (λ m. without_letter m.0) c.self.invariant.0 in
    (λ k. outbox_data (post_id (c.split_seat-seat.ensures.0 k) c.self.inside.actors) c.self.inside.number
    (own_in (new k)) (posting_in (new k)) (c.self.inside.place + 1))
    ∙ ap (λ (d : OutboxData). outbox_data d.post d.number d.own d.posting (d.next + 1)) c.self.view_is
