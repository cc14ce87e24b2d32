-- Names that compare equal are one list.
use Rattle.std.specs.Prelude.{◌≡◌, ℕ, List, [], ◌∷◌, IsTrue, nat_eq}
use Rattle.std.proofs.Common.{ap}
use Rattle.std.specs.Cmp.Lexicographic.{pointwise}
use Rattle.std.proofs.lemmas.Slice.Eq.{bytes_eq-Decides}

pub same_input : (x y : List ℕ) → IsTrue (pointwise nat_eq x y) → x ∷ [] ≡ y ∷ []
same_input x y h = ap (λ (z : List ℕ). z ∷ []) ((bytes_eq-Decides x y).0 h)
