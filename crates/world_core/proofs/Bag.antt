-- Message k of the bag is the one that its id finds, and taking it out by place or by id is the same.
use Rattle.std.proofs.Common.{◌≡◌, ℕ, suc, zero, ◌+◌, ◌≤◌, Bool, true, false, List, [], ◌∷◌, Some, refl, sym, ap, subst, arith}
use Rattle.std.specs.Prelude.{slice_get}
use Rattle.std.specs.List.{remove}
use Rattle.letter_types.specs.declared.entries.Letter.{Letter}
use Rattle.letter_types.specs.Letters.{same_id, find_id, drop_id}
use Rattle.letter_types.proofs.Ids.{same_id-self}
use Rattle.world_model.specs.Counts.{tally, one_if}
use Rattle.world_model.proofs.Gone.{of_id}

-- the message at a place, by its id
pub record Found (xs : List Letter) (k : ℕ) (l : Letter) : Type 0 where
  pub found : find_id l.id xs ≡ Some l
  pub left : drop_id l.id xs ≡ remove xs k

there : (xs : List Letter) (k : ℕ) (l : Letter) → slice_get xs k ≡ Some l → 1 ≤ tally (of_id l.id) xs
there [] k l at = absurd (cc at)
there (x ∷ xs) zero l at = let eq : x ≡ l = cc at in subst (λ (y : Letter). 1 ≤ of_id l.id y + tally (of_id l.id) xs) (sym eq) (rw (same_id-self l.id) (omega arith))
there (x ∷ xs) (suc k) l at = omega (arith, there xs k l at)

apart_by : (b : Bool) (n : ℕ) → one_if b + n ≤ 1 → 1 ≤ n → b ≡ false
apart_by true n le one = absurd (omega arith)
apart_by false n le one = refl

first_found : (x : Letter) (xs : List Letter) → Found (x ∷ xs) zero x
first_found x xs = record { found = rw (same_id-self x.id) refl; left = rw (same_id-self x.id) refl }

later_found : (x : Letter) (xs : List Letter) (k : ℕ) (l : Letter) → same_id l.id x.id ≡ false → Found xs k l → Found (x ∷ xs) (suc k) l
later_found x xs k l is f = record { found = rw is f.found; left = rw is (ap (λ (ys : List Letter). x ∷ ys) f.left) }

pub found_at : (xs : List Letter) (k : ℕ) (l : Letter) → tally (of_id l.id) xs ≤ 1 → slice_get xs k ≡ Some l → Found xs k l
found_at [] k l once at = absurd (cc at)
found_at (x ∷ xs) zero l once at = let eq : x ≡ l = cc at in subst (λ (y : Letter). Found (x ∷ xs) zero y) eq (first_found x xs)
found_at (x ∷ xs) (suc k) l once at =
    later_found x xs k l (apart_by (same_id l.id x.id) (tally (of_id l.id) xs) once (there xs k l at)) (found_at xs k l (omega arith) at)
