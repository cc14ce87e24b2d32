-- Numbers as their digits.
use Rattle.std.specs.Prelude.{ℕ, ◌+◌, ◌*◌, ◌-◌, List, fold}

-- the value of decimal digits
abbrev pub decimal_value : List ℕ → ℕ
decimal_value digits = fold (λ value b. value * 10 + (b - 48)) 0 digits
