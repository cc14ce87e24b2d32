-- Where a number is in an ascending list. These are the definitions that private code alone cites.
use Rattle.std.specs.Prelude.{ℕ, ◌+◌, ℤ, List, [], ◌∷◌, if◌then◌else◌, int_le}

-- how many numbers of an ascending list are below a number
abbrev pub rank : ℤ → List ℤ → ℕ
rank n [] = 0
rank n (x ∷ xs) = if int_le n x then 0 else rank n xs + 1
