-- What holds of each of a list, and sums over lists.
use Rattle.std.specs.Prelude.{List, [], ◌∷◌}
pub use Rattle.tv_base.specs.Sums.{one_if, tally}

-- what holds of each
abbrev pub Each : {X : Type 0} → (X → Type 0) → List X → Type 0
Each P [] = Unit {0}
Each P (x ∷ xs) = P x × Each P xs
