-- From what holds of each act of each entry to what holds of each act at its position in the list of all acts.
use Rattle.std.proofs.Common.{◌≡◌, ◌⊎◌, inl, inr, ℕ, zero, suc, List, ◌∷◌, ◌++◌, refl, sym, ap, subst, Some, take, append_assoc, append-nil, []}
use Rattle.std.specs.Prelude.{slice_get}
use Rattle.letter_types.specs.declared.entries.Entry.{Entry}
use Rattle.board_rules.specs.Histories.{Place, places_at, places_of}
use Rattle.board_rules.specs.Moves.{AtEachAct, OneByOne}

pub one_at : (P : List Place → Place → Type 0) (xs ys : List Place) → OneByOne P xs ys → (i : ℕ) (y : Place) → slice_get ys i ≡ Some y
    → P (xs ++ take i ys) y
one_at P xs [] all i y is = absurd (cc is)
one_at P xs (z ∷ ys) all zero y is =
    let same : z ≡ y = cc is in subst (λ w. P (xs ++ []) w) same (subst (λ w. P w z) (sym (append-nil xs)) all.0)
one_at P xs (z ∷ ys) all (suc i) y is =
    subst (λ w. P w y) (append_assoc xs (z ∷ []) (take i ys)) (one_at P (xs ++ z ∷ []) ys all.1 i y is)

behind : (P : List Place → Place → Type 0) (front xs ys : List Place) → OneByOne P (front ++ xs) ys → OneByOne (λ zs y. P (front ++ zs) y) xs ys
behind P front xs [] all = tt
behind P front xs (y ∷ ys) all =
    (all.0, behind P front (xs ++ y ∷ []) ys (subst (λ w. OneByOne P w ys) (append_assoc front xs (y ∷ [])) all.1))

record Later (a b : List Place) (i : ℕ) (y : Place) : Type 0 where
  place : ℕ
  is : slice_get b place ≡ Some y
  front : take i (a ++ b) ≡ a ++ take place b

side : (a b : List Place) (i : ℕ) (y : Place) → slice_get (a ++ b) i ≡ Some y
    → ((slice_get a i ≡ Some y) × (take i (a ++ b) ≡ take i a)) ⊎ Later a b i y
side [] b i y is = inr (record { place = i; is = is; front = refl })
side (x ∷ a) b zero y is = inl (is, refl)
side (x ∷ a) b (suc i) y is = by (side a b i y is) where
  by : ((slice_get a i ≡ Some y) × (take i (a ++ b) ≡ take i a)) ⊎ Later a b i y
      → ((slice_get a i ≡ Some y) × (x ∷ take i (a ++ b) ≡ x ∷ take i a)) ⊎ Later (x ∷ a) b (suc i) y
  by (inl both) = inl (both.0, ap (λ z. x ∷ z) both.1)
  by (inr l) = inr (record { place = l.place; is = l.is; front = ap (λ z. x ∷ z) l.front })

-- what holds of an act at its position: the history before its entry is a prefix of the history
pub record AtPosition (P : List Entry → List Place → Place → Type 0) (h : List Entry) (i : ℕ) (y : Place) : Type 0 where
  pub entry : ℕ
  pub holds : P (take entry h) (take i (places_of h)) y

-- what holds of each act holds of it at its position
pub at_position : (P : List Entry → List Place → Place → Type 0) (h : List Entry) → AtEachAct P h
    → (i : ℕ) (y : Place) → slice_get (places_of h) i ≡ Some y → AtPosition P h i y
at_position P [] all i y is = absurd (cc is)
at_position P (e ∷ es) all i y is =
    by (at_position (λ before xs z. P (e ∷ before) (places_at e ++ xs) z) es
    (λ n d there. behind (P (e ∷ take n es)) (places_at e) (places_of (take n es)) (places_at d) (all (suc n) d there)))
    (side (places_at e) (places_of es) i y is) where
      by : ((j : ℕ) (z : Place) → slice_get (places_of es) j ≡ Some z → AtPosition (λ before xs w. P (e ∷ before) (places_at e ++ xs) w) es j z)
          → ((slice_get (places_at e) i ≡ Some y) × (take i (places_at e ++ places_of es) ≡ take i (places_at e)))
          ⊎ Later (places_at e) (places_of es) i y
          → AtPosition P (e ∷ es) i y
      by rest (inl both) = record {
        entry = 0;
        holds = subst (λ w. P [] w y) (sym both.1) (one_at (P []) [] (places_at e) (all 0 e refl) i y both.0);
      }
      by rest (inr l) =
          let r = rest l.place y l.is in
          record { entry = suc r.entry; holds = subst (λ w. P (e ∷ take r.entry es) w y) (sym l.front) r.holds }
