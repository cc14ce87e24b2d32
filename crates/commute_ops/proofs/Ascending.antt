-- Numbers stay in order when one is put in.
use Rattle.std.proofs.Common.{zero, suc, ℤ, List, [], ◌∷◌, arith}
use Rattle.std.specs.Prelude.{◌≤ℤ◌, int_le}
use Rattle.std.specs.List.{All}
use Rattle.std.proofs.lemmas.Bool.{cond_both}
use Rattle.std.proofs.lemmas.Int.{ints}
use Rattle.std.proofs.lemmas.List.Elements.{All-nil, All-cons, All-head, All-tail}
use Rattle.std.proofs.lemmas.List.Kept.{AllPairs-cons}
use Rattle.commute_ops.specs.Numbers.{IsAscending, with_number}

All-with_number : (P : ℤ → Type 0) (n : ℤ) (xs : List ℤ) → P n → All P xs → All P (with_number n xs)
All-with_number P n [] here all = All-cons P n [] here all
All-with_number P n (x ∷ xs) here all =
    cond_both (int_le n x) (n ∷ x ∷ xs) (x ∷ with_number n xs) (All P)
    (λ _. All-cons P n (x ∷ xs) here all)
    (λ _. All-cons P x (with_number n xs) (All-head P x xs all) (All-with_number P n xs here (All-tail P x xs all)))

rest-ascends : (x : ℤ) (xs : List ℤ) → IsAscending (x ∷ xs) → IsAscending xs
rest-ascends x xs up = λ i j d lt within. up (suc i) (suc j) d (omega arith) (omega arith)

first-least : (x : ℤ) (xs : List ℤ) → IsAscending (x ∷ xs) → All (λ y. x ≤ℤ y) xs
first-least x xs up = λ k d within. up zero (suc k) d (omega arith) (omega arith)

All-weaker : (n x : ℤ) (xs : List ℤ) → n ≤ℤ x → All (λ y. x ≤ℤ y) xs → All (λ y. n ≤ℤ y) xs
All-weaker n x xs le all = λ k d within. let one = all k d within in omega (arith, ints)

pub IsAscending-with_number : (n : ℤ) (xs : List ℤ) → IsAscending xs → IsAscending (with_number n xs)
IsAscending-with_number n [] up = AllPairs-cons (λ x y. x ≤ℤ y) n [] (All-nil (λ y. n ≤ℤ y)) up
IsAscending-with_number n (x ∷ xs) up =
    let least = first-least x xs up in
    cond_both (int_le n x) (n ∷ x ∷ xs) (x ∷ with_number n xs) IsAscending
    (λ e. let le : n ≤ℤ x = grind (arith, ints) in
    AllPairs-cons (λ x y. x ≤ℤ y) n (x ∷ xs) (All-cons (λ y. n ≤ℤ y) x xs le (All-weaker n x xs le least)) up)
    (λ e. let le : x ≤ℤ n = grind (arith, ints) in
    AllPairs-cons (λ x y. x ≤ℤ y) x (with_number n xs) (All-with_number (λ y. x ≤ℤ y) n xs le least) (IsAscending-with_number n xs (rest-ascends x xs up)))

pub ruleset kept = (IsAscending-with_number)
