-- Sums of a number of each place of a list.
use Rattle.std.proofs.Common.{◌≡◌, ℕ, ◌+◌, ◌<◌, ◌≤◌, ◌==◌, ◌&&◌, Bool, true, false, List, [], ◌∷◌, length, refl, ◌∙◌, arith}
use Rattle.std.proofs.lemmas.Bool.Decides.{nat_tests}
use Rattle.world_model.specs.Counts.{one_if}

-- the sum of a number of each place, where the list begins with place i
abbrev pub over : {X : Type 0} → ℕ → (ℕ → ℕ) → List X → ℕ
over i f [] = 0
over i f (x ∷ xs) = f i + over (i + 1) f xs

pub over_add : {X : Type 0} (i : ℕ) (f g : ℕ → ℕ) (xs : List X) → over i (λ k. f k + g k) xs ≡ over i f xs + over i g xs
over_add i f g [] = refl
over_add i f g (x ∷ xs) = omega (arith, over_add (i + 1) f g xs)

-- numbers that are the same at each place
pub over_same : {X : Type 0} (i : ℕ) (f g : ℕ → ℕ) (xs : List X) → ((k : ℕ) → i ≤ k → k < i + length xs → f k ≡ g k)
    → over i f xs ≡ over i g xs
over_same i f g [] same = refl
over_same i f g (x ∷ xs) same =
    omega (arith, same i (omega arith) (omega arith), over_same (i + 1) f g xs (λ k le lt. same k (omega arith) (omega arith)))

-- a number that is 0 at each place
pub over_none : {X : Type 0} (i : ℕ) (f : ℕ → ℕ) (xs : List X) → ((k : ℕ) → f k ≡ 0) → over i f xs ≡ 0
over_none i f [] none = refl
over_none i f (x ∷ xs) none = omega (arith, none i, over_none (i + 1) f xs none)

-- a number that is 1 at each place
pub over_ones : {X : Type 0} (i : ℕ) (f : ℕ → ℕ) (xs : List X) → ((k : ℕ) → i ≤ k → k < i + length xs → f k ≡ 1)
    → over i f xs ≡ length xs
over_ones i f [] one = refl
over_ones i f (x ∷ xs) one =
    omega (arith, one i (omega arith) (omega arith), over_ones (i + 1) f xs (λ k le lt. one k (omega arith) (omega arith)))

-- One place of a list is hit.
past_it : (j k : ℕ) → j < k → one_if (j == k) ≡ 0
past_it j k lt = grind (arith, nat_tests)

hit_none : {X : Type 0} (i j : ℕ) (xs : List X) → j < i → over i (λ k. one_if (j == k)) xs ≡ 0
hit_none i j [] lt = refl
hit_none i j (x ∷ xs) lt = omega (arith, past_it j i lt, hit_none (i + 1) j xs (omega arith))

hit_at : {X : Type 0} (i j : ℕ) (xs : List X) (test : Bool) → (j == i) ≡ test → i ≤ j
    → (i + 1 ≤ j → over (i + 1) (λ k. one_if (j == k)) xs ≡ 1) → one_if test + over (i + 1) (λ k. one_if (j == k)) xs ≡ 1
hit_at i j xs true is le later =
    let here : j < i + 1 = grind (arith, nat_tests) in
    omega (arith, hit_none (i + 1) j xs here)
hit_at i j xs false is le later = omega (arith, later (grind (arith, nat_tests)))

-- a place of the list is hit once
pub over_hit : {X : Type 0} (i j : ℕ) (xs : List X) → i ≤ j → j < i + length xs → over i (λ k. one_if (j == k)) xs ≡ 1
over_hit i j [] le lt = absurd (omega arith)
over_hit i j (x ∷ xs) le lt = hit_at i j xs (j == i) refl le (λ less. over_hit (i + 1) j xs less (omega arith))

other_row : (u t j k : ℕ) → (u == t) ≡ false → one_if ((u == t) && (j == k)) ≡ 0
other_row u t j k is = grind (arith, nat_tests)

same_row : (u t j k : ℕ) → (u == t) ≡ true → one_if ((u == t) && (j == k)) ≡ one_if (j == k)
same_row u t j k is = grind (arith, nat_tests)

row_hit_at : {X : Type 0} (u t j : ℕ) (xs : List X) (test : Bool) → (u == t) ≡ test → (u ≡ t → j < length xs)
    → over 0 (λ k. one_if ((u == t) && (j == k))) xs ≡ one_if test
row_hit_at u t j xs true is lt =
    let here : j < length xs = lt (grind (arith, nat_tests)) in
    over_same 0 (λ k. one_if ((u == t) && (j == k))) (λ k. one_if (j == k)) xs (λ k le below. same_row u t j k is) ∙ over_hit 0 j xs (omega arith) (omega arith)
row_hit_at u t j xs false is lt =
    over_none 0 (λ k. one_if ((u == t) && (j == k))) xs (λ k. other_row u t j k is)

-- of these rows, whose lengths differ, row u is hit at place j: row t is hit once if it is row u, and else not
pub row_hit : {X : Type 0} (u t j : ℕ) (xs : List X) → (u ≡ t → j < length xs)
    → over 0 (λ k. one_if ((u == t) && (j == k))) xs ≡ one_if (u == t)
row_hit u t j xs lt = row_hit_at u t j xs (u == t) refl lt
