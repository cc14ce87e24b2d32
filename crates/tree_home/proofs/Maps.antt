-- A function of numbers with a value put in.
use Rattle.std.proofs.Common.{◌≡◌, ℕ, refl, sym, inl, inr}
use Rattle.std.proofs.Math.Path.{fun_ext}
use Rattle.std.proofs.lemmas.Bool.{cases_eq, eq-eqb, ne_eqb}
use Rattle.tree_home.specs.Maps.{put_at}

-- what is put in is there, and nothing else is changed
pub put_at-same : {X : Type 0} (k : ℕ) (x : X) (f : ℕ → X) → put_at k x f k ≡ x
put_at-same k x f = rw (eq-eqb k k refl) refl

pub put_at-other : {X : Type 0} (k j : ℕ) (x : X) (f : ℕ → X) → (j ≡ k → ⊥) → put_at k x f j ≡ f j
put_at-other k j x f ne = rw (ne_eqb j k ne) refl

put_back-at : {X : Type 0} (k : ℕ) (x y : X) (f : ℕ → X) (j : ℕ) → f k ≡ y → put_at k y (put_at k x f) j ≡ f j
put_back-at k x y f j was =
    elim (cases_eq j k) [
      | inl eq ↦ rw (eq-eqb j k eq, eq) (sym was)
      | inr ne ↦ rw (ne_eqb j k ne) refl
    ]

-- with what was there put in again, the function is as before
pub put_back : {X : Type 0} (k : ℕ) (x y : X) (f : ℕ → X) → f k ≡ y → put_at k y (put_at k x f) ≡ f
put_back k x y f was = fun_ext (λ j. put_back-at k x y f j was)
