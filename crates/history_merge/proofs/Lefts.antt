-- What a filter by number leaves of a list.
use Rattle.std.proofs.Common.{◌≡◌, ℕ, suc, ◌==◌, Bool, true, false, List, [], ◌∷◌, ◌++◌, filter, refl, sym, ap, ◌∙◌, arith, Some}
use Rattle.std.specs.Prelude.{if◌then◌else◌, slice_get}
use Rattle.std.proofs.lemmas.Bool.Decides.{nat_tests}

-- an item that a filter by number leaves
pub record Left {X : Type 0} (f : X → ℕ) (a : ℕ) (l : List X) (x : X) : Type 0 where
  pub place : ℕ
  pub at : slice_get l place ≡ Some x
  pub is : f x ≡ a

left_later : {X : Type 0} (f : X → ℕ) (a : ℕ) (y : X) (l : List X) (x : X) → Left f a l x → Left f a (y ∷ l) x
left_later f a y l x h = record { place = suc h.place; at = h.at; is = h.is }

left_by : {X : Type 0} (f : X → ℕ) (a : ℕ) (y : X) (l rest : List X) (b : Bool) (xs : List X) (x : X) (ys : List X) → (f y == a) ≡ b
    → ((zs : List X) → rest ≡ zs ++ (x ∷ ys) → Left f a l x)
    → (if b then y ∷ rest else rest) ≡ xs ++ (x ∷ ys) → Left f a (y ∷ l) x
left_by f a y l rest true [] x ys mine h is =
    let same : y ≡ x = cc is in
    record { place = 0; at = ap (λ (z : _). Some z) same; is = ap f (sym same) ∙ grind (arith, nat_tests) }
left_by f a y l rest true (z ∷ xs) x ys mine h is = left_later f a y l x (h xs (cc is))
left_by f a y l rest false xs x ys mine h is = left_later f a y l x (h xs is)

pub left : {X : Type 0} (f : X → ℕ) (a : ℕ) (l xs : List X) (x : X) (ys : List X) → filter (λ z. f z == a) l ≡ xs ++ (x ∷ ys) → Left f a l x
left f a [] [] x ys is = absurd (cc is)
left f a [] (z ∷ xs) x ys is = absurd (cc is)
left f a (y ∷ l) xs x ys is =
    left_by f a y l (filter (λ z. f z == a) l) (f y == a) xs x ys refl (λ zs at. left f a l zs x ys at) is
