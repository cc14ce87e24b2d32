-- Notices that come in at a home, one after the other.
use Rattle.std.proofs.Common.{◌≡◌, ◌≢◌, ◌⊎◌, inl, inr, ℕ, ◌<◌, ◌==◌, ◌&&◌, List, ◌∷◌, length, set, replicate, sym, subst, ◌∙◌, arith, Option, Some, None, zero, suc, true, refl, []}
use Rattle.std.specs.Prelude.{slice_get}
use Rattle.std.proofs.lemmas.Bool.Decides.{nat_tests}
use Rattle.std.proofs.lemmas.List.{length-replicate}
use Rattle.tree_home.specs.Homes.{Gets, is_missing}
use Rattle.world_model.specs.Counts.{one_if}
use Rattle.tree_laws.specs.Stages.{is_noted}
use Rattle.tree_laws.proofs.homes.Noting.{noted_same, noted_other, none_noted}

pub first_one : (t k : ℕ) → one_if ((t == t) && (0 == k)) ≡ one_if (0 == k)
first_one t k = grind (arith, nat_tests)

-- notices that are all missing
abbrev pub all_none : ℕ → List (Option Gets)
all_none n = replicate n None

pub none_places : (n : ℕ) → length (all_none n) ≡ n
none_places n = length-replicate n None

pub root_noted : (n k : ℕ) (values : Gets) → 0 < n → (k ≡ 0) ⊎ (k ≢ 0)
    → is_noted (slice_get (set (all_none n) 0 (Some values)) k) ≡ one_if (0 == k)
root_noted n k values lt (inl is) =
    let one : one_if (0 == k) ≡ 1 = grind (arith, nat_tests) in
    let first = noted_same (all_none n) 0 values (omega (arith, none_places n)) in
    subst (λ (j : ℕ). is_noted (slice_get (set (all_none n) 0 (Some values)) j) ≡ one_if (0 == k)) (sym is) (first ∙ sym one)
root_noted n k values lt (inr ne) =
    let none : one_if (0 == k) ≡ 0 = grind (arith, nat_tests) in
    noted_other (all_none n) 0 k values ne ∙ none_noted n k ∙ sym none

pub told_one : (t k i : ℕ) → k ≡ i → one_if ((t == t) && (k == i)) ≡ 1
told_one t k i is = grind (arith, nat_tests)

pub told_none : (t k i : ℕ) → i ≢ k → one_if ((t == t) && (k == i)) ≡ 0
told_none t k i ne = grind (arith, nat_tests)

-- a notice that was not taken down is missing
pub missing_at : (ns : List (Option Gets)) (k : ℕ) → k < length ns → is_noted (slice_get ns k) ≡ 0 → is_missing (slice_get ns k) ≡ true
missing_at [] k lt none = absurd (omega arith)
missing_at (None ∷ ns) zero lt none = refl
missing_at (Some values ∷ ns) zero lt none = absurd (omega (arith, none))
missing_at (n ∷ ns) (suc k) lt none = missing_at ns k (omega arith) none
