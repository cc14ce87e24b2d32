-- Numbers as they are printed: decimal digits without a leading zero.
use Rattle.std.specs.Prelude.{ℕ, ℤ, ◌≤◌, Bool, false, ◌&&◌, ◌||◌, ◌==◌, not, List, [], ◌∷◌, length}
use Rattle.std.specs.Char.{is_ascii_digit}
use Rattle.std.specs.List.{fold, list_all}
use Rattle.commute_ops.specs.Numbers.{with_number}
use Rattle.commute_ops.specs.declared.kinds.TheConstants.{MOST_AMOUNT}

-- digits, of which the first is no zero unless it is the only one
abbrev pub is_plain_number : List ℕ → Bool
is_plain_number [] = false
is_plain_number (d ∷ ds) = list_all is_ascii_digit (d ∷ ds) && (not (d == 48) || length ds == 0)

-- the size of a number that an item may hold
abbrev pub IsSize : ℕ → Type 0
IsSize n = n ≤ MOST_AMOUNT

-- a minus is the byte 45
abbrev pub begins_with_minus : List ℕ → Bool
begins_with_minus [] = false
begins_with_minus (b ∷ bs) = b == 45

-- the numbers in ascending order, each as often as it is there
abbrev pub ascending_of : List ℤ → List ℤ
ascending_of ns = fold (λ done n. with_number n done) [] ns
