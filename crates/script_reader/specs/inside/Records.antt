-- The next record of a text. These are the definitions that private code alone cites.
use Rattle.std.specs.Prelude.{◌≡◌, ℕ, Bool, true, false, List, [], ◌∷◌}

-- the next record was taken, or there was none
abbrev pub Takes : List (List (List ℕ)) → Bool → List (List ℕ) → List (List (List ℕ)) → Type 0
Takes old true fields new = old ≡ fields ∷ new
Takes old false fields new = old ≡ []
