-- The trays of a desk: messages that are sorted in one after the other, and trays that are emptied one after the other.
use Rattle.std.proofs.Common.{◌≡◌, ap, sym, ◌∙◌, arith, ℕ, zero, suc, ◌+◌, ◌<◌, ◌≤◌, List, [], ◌∷◌, ◌++◌, append_assoc, drop, get_or, length, set}
use Rattle.std.proofs.Math.Seq.{set-append_seam, drop-nil}
use Rattle.std.proofs.lemmas.List.{at_drop_more, drop_more, length-replicate, replicate-append-replicate}
use Rattle.std.proofs.lemmas.Option.{get_or_from_slice_get, slice_get_within}
use Rattle.std.specs.Prelude.{slice_get, Some}
use Rattle.letter_types.specs.declared.entries.Letter.{Letter}
use Rattle.letter_types.specs.declared.entries.Outgoing.{Outgoing}
use Rattle.letter_types.specs.Letters.{sealed}
use Rattle.stamp_post.specs.Shown.{EnvelopeData, PostId, envelope_data}
use Rattle.actor_schedule.specs.Desks.{all_sorted_in, empty_trays, sorted_in}

-- one empty tray more
pub one_more_tray : (n : ℕ) → empty_trays n ++ [] ∷ [] ≡ empty_trays (n + 1)
one_more_tray n = replicate-append-replicate n 1 []

-- the first tray that isn't emptied yet is emptied
pub emptied_next : (n : ℕ) (trays : List (List EnvelopeData)) → n < length trays
    → set (empty_trays n ++ drop n trays) n [] ≡ empty_trays (n + 1) ++ drop (n + 1) trays
emptied_next n trays within =
    ap (λ (ts : List (List EnvelopeData)). set (empty_trays n ++ ts) n []) (drop_more trays n [] within)
    ∙ ap (λ (k : ℕ). set (empty_trays n ++ get_or trays n [] ∷ drop (n + 1) trays) k []) (sym (length-replicate n []))
    ∙ set-append_seam (empty_trays n) (get_or trays n []) (drop (n + 1) trays) []
    ∙ sym (append_assoc (empty_trays n) ([] ∷ []) (drop (n + 1) trays))
    ∙ ap (λ (ts : List (List EnvelopeData)). ts ++ drop (n + 1) trays) (one_more_tray n)

-- the next letter of an outbox is sorted in
pub sorted_next : (post : PostId) (ls : List Letter) (k : ℕ) (e : EnvelopeData) (trays : List (List EnvelopeData))
    → slice_get ls k ≡ Some e.letter → e.post ≡ post
    → all_sorted_in post (drop k ls) trays ≡ all_sorted_in post (drop (k + 1) ls) (sorted_in e trays)
sorted_next post ls k e trays there is =
    at_drop_more (λ (x : List Letter). all_sorted_in post x trays) ls k e.letter (slice_get_within ls k e.letter there)
    ∙ ap (λ (l : Letter). all_sorted_in post (drop (k + 1) ls) (sorted_in (envelope_data post l) trays)) (get_or_from_slice_get ls k e.letter e.letter there)
    ∙ ap (λ (p : PostId). all_sorted_in post (drop (k + 1) ls) (sorted_in (envelope_data p e.letter) trays)) (sym is)

-- past the last letter none is left
pub none_left : (stamp actor place n : ℕ) (os : List Outgoing) → length os ≤ n → drop n (sealed stamp actor place os) ≡ []
none_left stamp actor place n [] few = drop-nil n
none_left stamp actor place zero (o ∷ os) few = absurd (omega (arith, few))
none_left stamp actor place (suc n) (o ∷ os) few = none_left stamp actor (place + 1) n os (omega (arith, few))
