-- The acts of a history are those of its past.
use Rattle.std.proofs.Common.{◌≡◌, ℕ, ◌+◌, ◌≤◌, ◌||◌, Bool, true, false, List, [], ◌∷◌, ◌++◌, reverse, refl, ap, ◌∙◌, arith}
use Rattle.std.specs.Prelude.{map}
use Rattle.std.specs.List.{list_any}
use Rattle.letter_types.specs.declared.acts.Act.{Act}
use Rattle.letter_types.specs.declared.acts.Act.TheVariants.{Born, Finished}
use Rattle.letter_types.specs.declared.entries.Entry.{Entry}
use Rattle.board_rules.specs.Histories.{Place, places_at, places_of}
use Rattle.board_rules.specs.Right.{finishes}
use Rattle.board_rules.proofs.Places.{places_of-append}
use Rattle.world_model.specs.Counts.{tally, one_if}
use Rattle.world_model.proofs.Bags.{tally-append}
use Rattle.world_model.proofs.Bridge.{reverse_more}
use Rattle.tree_laws.specs.Ends.{is_finish}

-- a number of an act, wherever it is
abbrev pub of_act : (Act → ℕ) → Place → ℕ
of_act f x = f x.act

acts_at : (f : Act → ℕ) (node : ℕ) (acts : List Act)
    → tally (of_act f) (map (λ (a : Act). record { node = node; act = a }) acts) ≡ tally f acts
acts_at f node [] = refl
acts_at f node (a ∷ acts) = omega (arith, acts_at f node acts)

-- a sum over the acts of a history, with one entry more
pub acts_more : (f : Act → ℕ) (past : List Entry) (e : Entry)
    → tally (of_act f) (places_of (reverse (e ∷ past))) ≡ tally f e.acts + tally (of_act f) (places_of (reverse past))
acts_more f past e =
    let parts : tally (of_act f) (places_of (reverse (e ∷ past))) ≡ tally (of_act f) (places_of (reverse past) ++ places_of (e ∷ [])) =
    ap (λ (xs : List Place). tally (of_act f) xs) (ap (λ (h : List Entry). places_of h) (reverse_more e past) ∙ places_of-append (reverse past) (e ∷ [])) in
    omega (
      arith,
      parts,
      tally-append (of_act f) (places_of (reverse past)) (places_of (e ∷ [])),
      tally-append (of_act f) (places_at e) [],
      acts_at f e.actor.0 e.acts,
    )

-- What is counted is there.
abbrev Marks : {X : Type 0} → (X → ℕ) → (X → Bool) → Type 0
Marks {X} f p = (x : X) → f x ≡ one_if (p x)

counted_at : {X : Type 0} (f : X → ℕ) (p : X → Bool) (x : X) (xs : List X) → f x ≡ one_if (p x) → 1 ≤ f x + tally f xs
    → (1 ≤ tally f xs → list_any p xs ≡ true) → (test : Bool) → p x ≡ test → (test || list_any p xs) ≡ true
counted_at f p x xs same some rest true is = refl
counted_at f p x xs same some rest false is =
    let none : one_if (p x) ≡ 0 = ap one_if is in rest (omega (arith, same, none))

pub counted_any : {X : Type 0} (f : X → ℕ) (p : X → Bool) (xs : List X) → Marks f p → 1 ≤ tally f xs → list_any p xs ≡ true
counted_any f p [] marks some = absurd (omega arith)
counted_any f p (x ∷ xs) marks some = counted_at f p x xs (marks x) some (counted_any f p xs marks) (p x) refl

any_at : {X : Type 0} (f : X → ℕ) (p : X → Bool) (x : X) (xs : List X) → f x ≡ one_if (p x)
    → (list_any p xs ≡ true → 1 ≤ tally f xs) → (test : Bool) → p x ≡ test → (test || list_any p xs) ≡ true → 1 ≤ f x + tally f xs
any_at f p x xs same rest true is some = let one : one_if (p x) ≡ 1 = ap one_if is in omega (arith, same, one)
any_at f p x xs same rest false is some = omega (arith, rest some)

pub any_counted : {X : Type 0} (f : X → ℕ) (p : X → Bool) (xs : List X) → Marks f p → list_any p xs ≡ true → 1 ≤ tally f xs
any_counted f p [] marks some = absurd (cc some)
any_counted f p (x ∷ xs) marks some = any_at f p x xs (marks x) (any_counted f p xs marks) (p x) refl some

pub finish_marks : (a : Act) → is_finish a ≡ one_if (finishes a)
finish_marks Finished = refl
finish_marks (Born t v) = refl
finish_marks _ = refl
