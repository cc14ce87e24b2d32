-- Numbers of the values, and numbers in order.
use Rattle.std.specs.Prelude.{Bool, ◌+◌, nat_le, ℤ, ◌≤ℤ◌, List, [], ◌∷◌, if◌then◌else◌, int_le, unsigned_abs}
use Rattle.std.specs.List.{AllPairs}
use Rattle.commute_ops.specs.declared.kinds.TheConstants.{MOST_AMOUNT}

-- two magnitudes add up to no more than is allowed
abbrev pub is_within : ℤ → ℤ → Bool
is_within n a = nat_le (unsigned_abs n + unsigned_abs a) MOST_AMOUNT

-- the numbers ascend, repeats included
abbrev pub IsAscending : List ℤ → Type 0
IsAscending xs = AllPairs (λ x y. x ≤ℤ y) xs

-- a number once more in an ascending list
abbrev pub with_number : ℤ → List ℤ → List ℤ
with_number n [] = n ∷ []
with_number n (x ∷ xs) = if int_le n x then n ∷ x ∷ xs else x ∷ with_number n xs
