-- Sums over lists, from the front.
use Rattle.std.specs.Prelude.{if◌then◌else◌, ℕ, Bool, ◌+◌, List, [], ◌∷◌}

abbrev pub one_if : Bool → ℕ
one_if b = if b then 1 else 0

-- the sum of a number of each
abbrev pub tally : {X : Type 0} → (X → ℕ) → List X → ℕ
tally f [] = 0
tally f (x ∷ xs) = f x + tally f xs
