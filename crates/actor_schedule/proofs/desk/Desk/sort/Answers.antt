use Rattle.std.proofs.Common.{◌≡◌, ◌+◌, sym, ap, ◌∙◌, subst, drop, List, ◌∷◌}
use Rattle.std.specs.Prelude.{slice_get, Some}
use Rattle.letter_types.specs.declared.entries.Letter.{Letter}
use Rattle.letter_types.specs.declared.entries.Posting.{Posting}
use Rattle.letter_types.specs.Postal.{letters_sent}
use Rattle.stamp_post.specs.Shown.{EnvelopeData, OutboxData}
use Rattle.actor_schedule.specs.Desks.{all_sorted_in, left_in, sorted_in}
use Rattle.actor_schedule.proofs.Trays.{none_left, sorted_next}
use Rattle.actor_schedule.proofs.desk.Desk.sort.Goals as goal

pub loop-envelope-preserved : goal.loop-envelope-preserved
loop-envelope-preserved g c =
    let i = c.loop-envelope.invariant in
    let left = c.loop-envelope.left in
    let post = g.P.PostName.post in
    let trays = c.loop-envelope.self.trays in
    let e = c.in-Some.envelope in
    let rest = c.in-Some.ensures.out in
    let of_post : e.post ≡ post = c.in-Some.ensures.post ∙ i.post in
    record {
      post = ap (λ (o : OutboxData). o.post) rest ∙ i.post;
      posting = ap (λ (o : OutboxData). o.posting) rest ∙ i.posting;
      hand = c.put.ensures.hand ∙ i.hand;
      sorted =
          ap (λ (o : OutboxData). all_sorted_in post (left_in o) c.put.new.self.trays) rest
          ∙ ap (λ (ts : List (List EnvelopeData)). all_sorted_in post (drop (left.next + 1) (letters_sent left.posting)) ts) c.in_default-put.ensures.ok
          ∙ sym (sorted_next post (letters_sent left.posting) left.next e trays c.in-Some.ensures.letter of_post)
          ∙ i.sorted;
    }

pub returns-in-Err-clause-held : goal.returns-in-Err-clause-held
returns-in-Err-clause-held g c =
    let i = c.loop-envelope.invariant in
    let left = c.loop-envelope.left in
    let back : c.in-Err.envelope ≡ c.in-Some.envelope = c.in-Err.ensures.refused in
    let rest = c.in-Some.ensures.out in (
      ap (λ (e : EnvelopeData). e.post) back ∙ c.in-Some.ensures.post ∙ i.post,
      ap (λ (o : OutboxData). o.post) rest ∙ i.post,
      ap (λ (o : OutboxData). o.posting) rest ∙ i.posting,
      (
        left.next,
        subst (λ (p : Posting). slice_get (letters_sent p) left.next ≡ Some c.in-Err.envelope.letter) i.posting
            (c.in-Some.ensures.letter ∙ ap (λ (e : EnvelopeData). Some e.letter) (sym back)),
        ap (λ (o : OutboxData). o.next) rest,
      ),
    )

pub returns-in-Err-clause-rest : goal.returns-in-Err-clause-rest
returns-in-Err-clause-rest g c =
    let i = c.loop-envelope.invariant in
    let left = c.loop-envelope.left in
    let post = g.P.PostName.post in
    let trays = c.loop-envelope.self.trays in
    let e = c.in-Some.envelope in
    let of_post : e.post ≡ post = c.in-Some.ensures.post ∙ i.post in
    let ls = letters_sent left.posting in
    ap (λ (l : Letter). all_sorted_in post (l ∷ left_in c.next.new.self) c.put.new.self.trays) (ap (λ (x : EnvelopeData). x.letter) c.in-Err.ensures.refused)
    ∙ ap (λ (o : OutboxData). all_sorted_in post (e.letter ∷ left_in o) c.put.new.self.trays) c.in-Some.ensures.out
    ∙ ap (λ (ts : List (List EnvelopeData)). all_sorted_in post (e.letter ∷ drop (left.next + 1) ls) ts) c.in-Err.ensures.err
    ∙ ap (λ (x : EnvelopeData). all_sorted_in post (drop (left.next + 1) ls) (sorted_in x trays)) (ap (λ p. record { post = p; letter = e.letter }) (sym of_post))
    ∙ sym (sorted_next post ls left.next e trays c.in-Some.ensures.letter of_post)
    ∙ i.sorted

pub returns-clause-sorted : goal.returns-clause-sorted
returns-clause-sorted g c =
    let i = c.loop-envelope.invariant in
    let p = c.loop-envelope.left.posting in
    let none = none_left p.stamp.0 p.actor.0 0 c.loop-envelope.left.next p.sent c.in_default.ensures.none in
    sym (ap (λ (ls : List Letter). all_sorted_in g.P.PostName.post ls c.loop-envelope.self.trays) none) ∙ i.sorted
