-- A history has finished exactly if one of its acts is the client's end; as many messages were sent as its entries say.
use Rattle.std.proofs.Common.{◌≡◌, ℕ, ◌||◌, Bool, List, [], ◌∷◌, length, map, refl, sym, ap, ◌∙◌, arith}
use Rattle.std.specs.Prelude.{sum_by}
use Rattle.std.specs.List.{list_any}
use Rattle.std.proofs.lemmas.List.{length-append}
use Rattle.std.proofs.lemmas.List.Concat.{flat_map-cons}
use Rattle.std.proofs.lemmas.List.Folds.{list_any-append}
use Rattle.std.proofs.lemmas.List.Sums.{sum_by-cons}
use Rattle.letter_types.specs.declared.acts.Act.{Act}
use Rattle.letter_types.specs.declared.entries.Entry.{Entry}
use Rattle.letter_types.specs.declared.entries.Letter.{Letter}
use Rattle.letter_types.specs.Letters.{letters_of}
use Rattle.run_history.specs.Messages.{acts_of, messages_of}
use Rattle.run_history.proofs.Sealed.{sealed_count}
use Rattle.board_rules.specs.Histories.{Place, places_at, places_of}
use Rattle.board_rules.specs.Right.{finishes, has_finished}
use Rattle.board_rules.proofs.Places.{has_finished-append}

acts_end : (n : ℕ) (acts : List Act) → list_any (λ (x : Place). finishes x.act) (map (λ (a : Act). record { node = n; act = a }) acts) ≡ list_any finishes acts
acts_end n [] = refl
acts_end n (a ∷ acts) = ap (λ (b : Bool). finishes a || b) (acts_end n acts)

-- it has finished just as one of all acts finishes
pub ends_among : (h : List Entry) → list_any finishes (acts_of h) ≡ has_finished (places_of h)
ends_among [] = refl
ends_among (e ∷ h) =
    ap (list_any finishes) (flat_map-cons (λ (x : Entry). x.acts) e h)
    ∙ list_any-append finishes e.acts (acts_of h)
    ∙ (λ i. sym (acts_end e.actor.0 e.acts) i || ends_among h i)
    ∙ sym (has_finished-append (places_at e) (places_of h))

-- how many messages there are
pub all_sent : (h : List Entry) → length (messages_of h) ≡ sum_by (λ e. length e.sent) h
all_sent [] = refl
all_sent (e ∷ h) =
    omega (
      arith,
      ap (length {A = Letter}) (flat_map-cons letters_of e h),
      length-append (letters_of e) (messages_of h),
      sealed_count e.stamp.0 e.actor.0 0 e.sent,
      all_sent h,
      sum_by-cons (λ (x : Entry). length x.sent) e h,
    )
