-- What is counted of acts is what a history says of births and of what was done.
use Rattle.std.proofs.Common.{◌≡◌, ℕ, zero, suc, ◌<◌, ◌≤◌, ◌==◌, true, List, ◌∷◌, reverse, refl, arith, Bool, false, Option, Some, None, []}
use Rattle.std.specs.Prelude.{if◌then◌else◌, is_some, map}
use Rattle.std.proofs.lemmas.Bool.{and_from}
use Rattle.letter_types.specs.declared.acts.Act.{Act}
use Rattle.letter_types.specs.declared.acts.Act.TheVariants.{Did, Finished, Born}
use Rattle.letter_types.specs.declared.entries.Entry.{Entry}
use Rattle.board_rules.specs.Histories.{Place, places_of, does, was_done, all_done as all_done_in, born_as, version_in}
use Rattle.world_model.specs.Counts.{tally, one_if}
use Rattle.tree_laws.specs.Dids.{is_did_act, is_born, dids, births}
use Rattle.tree_laws.proofs.histories.Acts.{of_act, acts_more, counted_any}
use Rattle.std.specs.Option.{option_or}
use Rattle.tv_base.specs.declared.numbers.Version.{Version}

-- A history counts as its past does.
pub dids_in : (past : List Entry) (t k : ℕ) → tally (of_act (is_did_act t k)) (places_of (reverse past)) ≡ dids past t k
dids_in [] t k = refl
dids_in (e ∷ past) t k = omega (arith, acts_more (is_did_act t k) past e, dids_in past t k)

pub births_in : (past : List Entry) (t : ℕ) → tally (of_act (is_born t)) (places_of (reverse past)) ≡ births past t
births_in [] t = refl
births_in (e ∷ past) t = omega (arith, acts_more (is_born t) past e, births_in past t)

-- What was counted was done.
pub did_marks : (t k : ℕ) (a : Act) → is_did_act t k a ≡ one_if (does t k a)
did_marks t k (Did u j values) = refl
did_marks t k Finished = refl
did_marks t k _ = refl

pub was_done_of : (t k : ℕ) (xs : List Place) → 1 ≤ tally (of_act (is_did_act t k)) xs → was_done t k xs ≡ true
was_done_of t k xs some = counted_any (of_act (is_did_act t k)) (λ (x : Place). does t k x.act) xs (λ x. did_marks t k x.act) some

pub all_done_of : (t n : ℕ) (xs : List Place) → ((k : ℕ) → k < n → was_done t k xs ≡ true) → all_done_in t n xs ≡ true
all_done_of t zero xs done = refl
all_done_of t (suc n) xs done =
    and_from (all_done_in t n xs) (was_done t n xs) (all_done_of t n xs (λ k lt. done k (omega arith))) (done n (omega arith))

-- Versions with more acts.
-- a tree without births isn't born
unborn_at : (t : ℕ) (found : Option Version) (rest : Option Version) → one_if (is_some found) ≡ 0 → rest ≡ None → option_or found rest ≡ None
unborn_at t None rest none is = is
unborn_at t (Some v) rest none is = absurd (omega arith)

born_test : (t u : ℕ) (v : Version) (test : Bool) → (u == t) ≡ test → one_if (is_some (if u == t then Some v else None)) ≡ one_if (u == t)
born_test t u v true is = rw is refl
born_test t u v false is = rw is refl

born_marks : (t : ℕ) (a : Act) → one_if (is_some (born_as t a)) ≡ is_born t a
born_marks t (Born u v) = born_test t u.0 v (u.0 == t) refl
born_marks t Finished = refl
born_marks t _ = refl

pub unborn : (t : ℕ) (xs : List Place) → tally (of_act (is_born t)) xs ≡ 0 → version_in t xs ≡ None
unborn t [] none = refl
unborn t (x ∷ xs) none =
    unborn_at t (born_as t x.act) (version_in t xs) (omega (arith, born_marks t x.act)) (unborn t xs (omega arith))

-- Acts that are placed.
abbrev pub placed : ℕ → List Act → List Place
placed node acts = map (λ (a : Act). record { node = node; act = a }) acts
