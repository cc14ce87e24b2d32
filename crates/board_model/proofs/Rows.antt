-- Changes of one row.
use Rattle.std.proofs.Common.{◌≡◌, ℕ, zero, suc, ◌<◌, ◌≤◌, Bool, false, List, [], ◌∷◌, length, refl, ap, slice_set, get_or, arith}
use Rattle.std.proofs.lemmas.Bool.Decides.{nat_tests}
use Rattle.board_model.specs.inside.Tallies.{all_marked, on_row}

pub on_row_there : {A : Type 0} (t : ℕ) (f : A → A) (rows : List A) (d : A) → t < length rows → slice_set rows t (f (get_or rows t d)) ≡ on_row t f rows
on_row_there {A} t f [] d small = absurd (omega arith)
on_row_there {A} zero f (row ∷ rows) d small = refl
on_row_there {A} (suc t) f (row ∷ rows) d small = ap (λ (xs : List A). row ∷ xs) (on_row_there t f rows d (omega arith))

pub on_row_past : {A : Type 0} (t : ℕ) (f : A → A) (rows : List A) → length rows ≤ t → on_row t f rows ≡ rows
on_row_past {A} t f [] small = refl
on_row_past {A} zero f (row ∷ rows) small = absurd (omega arith)
on_row_past {A} (suc t) f (row ∷ rows) small = ap (λ (xs : List A). row ∷ xs) (on_row_past t f rows (omega arith))

-- a row beyond the end isn't set
pub set_beyond : (xs : List Bool) (k : ℕ) (b : Bool) → length xs ≤ k → slice_set xs k b ≡ xs
set_beyond [] k b small = refl
set_beyond (x ∷ xs) zero b small = absurd (omega arith)
set_beyond (x ∷ xs) (suc k) b small = ap (λ (ys : List Bool). x ∷ ys) (set_beyond xs k b (omega arith))

pub all_marked_not : (n k : ℕ) (done : List Bool) → k < n → get_or done k false ≡ false → all_marked n done ≡ false
all_marked_not zero k done small h = absurd (omega arith)
all_marked_not (suc n) k done small h =
    let rest : k < n → get_or done k false ≡ false → all_marked n done ≡ false = all_marked_not n k done in grind (arith, nat_tests)

pub ruleset on_rows = (on_row_there, on_row_past)
