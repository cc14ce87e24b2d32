-- A list of operations that may change places gives the same in any order.
use Rattle.std.proofs.Common.{◌≡◌, ◌<◌, ℕ, zero, suc, List, [], ◌∷◌, length, get_or, set, refl, sym, ap, ◌∙◌, arith}
use Rattle.std.specs.List.{fold, swap}
use Rattle.std.specs.List.Sorted.{IsPermutation}
use Rattle.std.proofs.lemmas.List.Edits.{swap_is}
use Rattle.std.proofs.lemmas.List.Sorted.{IsPermutation-keeps}
use Rattle.commute_ops.specs.declared.kinds.Op.{Op}
use Rattle.commute_ops.specs.declared.kinds.Op.TheVariants.{Add, Top as Raise, Put}
use Rattle.commute_ops.specs.declared.value.Value.{Value}
use Rattle.commute_ops.specs.declared.value.Value.TheVariants.{Sum, Top, Bag}
use Rattle.commute_ops.specs.Laws.{add-comm, int_max-comm, with_number-comm}
use Rattle.commute_ops.specs.Ops.{applied}
use Rattle.commute_ops.specs.Orders.{IsFreeOfOrder, ValuesAreFreeOfOrder}

module _ {S O : Type 0} (act : S → O → S) (comm : (s : S) (a b : O) → act (act s a) b ≡ act (act s b) a) where
  -- an operation that came first, and the one at place j, in each other's place
  first-set : (s : S) (x : O) (l : List O) (j : ℕ) (d : O) → j < length l → fold act (act s (get_or l j d)) (set l j x) ≡ fold act (act s x) l
  first-set s x [] j d within = absurd (omega arith)
  first-set s x (y ∷ l) zero d within = ap (λ z. fold act z l) (comm s y x)
  first-set s x (y ∷ l) (suc j) d within =
      ap (λ z. fold act z (set l j x)) (comm s (get_or l j d) y)
      ∙ first-set (act s y) x l j d (omega arith)
      ∙ ap (λ z. fold act z l) (comm s y x)

  -- two operations in each other's place
  fold-exchanged : (s : S) (l : List O) (i j : ℕ) (d : O) → i < length l → j < length l → fold act s (set (set l i (get_or l j d)) j (get_or l i d)) ≡ fold act s l
  fold-exchanged s [] i j d a b = absurd (omega arith)
  fold-exchanged s (x ∷ l) zero zero d a b = refl
  fold-exchanged s (x ∷ l) zero (suc j) d a b = first-set s x l j d (omega arith)
  fold-exchanged s (x ∷ l) (suc i) zero d a b = first-set s x l i d (omega arith)
  fold-exchanged s (x ∷ l) (suc i) (suc j) d a b = fold-exchanged (act s x) l i j d (omega arith) (omega arith)

  fold-swap : (s : S) (l : List O) (i j : ℕ) → i < length l → j < length l → fold act s (swap l i j) ≡ fold act s l
  fold-swap s [] i j a b = absurd (omega arith)
  fold-swap s (x ∷ l) i j a b = ap (fold act s) (sym (swap_is (x ∷ l) i j x a b)) ∙ fold-exchanged s (x ∷ l) i j x a b

  fold-permutation : (xs ys : List O) → IsPermutation xs ys → (s : S) → fold act s ys ≡ fold act s xs
  fold-permutation xs ys same s =
      IsPermutation-keeps xs (λ l. fold act s l ≡ fold act s xs) refl (λ l i j a b h. fold-swap s l i j a b ∙ h) ys same

pub is_free_of_order : {S O : Type 0} → IsFreeOfOrder S O
is_free_of_order {S} {O} = λ act comm xs ys same s. fold-permutation act comm xs ys same s

applied-comm : (v : Value) (a b : Op) → applied (applied v a) b ≡ applied (applied v b) a
applied-comm (Sum s) (Add a) (Add b) = ap (λ z. Sum (record { 0 = z })) (add-comm s.0 a b)
applied-comm (Sum s) (Add a) (Raise b) = refl
applied-comm (Sum s) (Add a) (Put b) = refl
applied-comm (Sum s) (Raise a) (Add b) = refl
applied-comm (Sum s) (Raise a) (Raise b) = refl
applied-comm (Sum s) (Raise a) (Put b) = refl
applied-comm (Sum s) (Put a) (Add b) = refl
applied-comm (Sum s) (Put a) (Raise b) = refl
applied-comm (Sum s) (Put a) (Put b) = refl
applied-comm (Top t) (Add a) (Add b) = refl
applied-comm (Top t) (Add a) (Raise b) = refl
applied-comm (Top t) (Add a) (Put b) = refl
applied-comm (Top t) (Raise a) (Add b) = refl
applied-comm (Top t) (Raise a) (Raise b) = ap (λ z. Top (record { 0 = z })) (int_max-comm t.0 a b)
applied-comm (Top t) (Raise a) (Put b) = refl
applied-comm (Top t) (Put a) (Add b) = refl
applied-comm (Top t) (Put a) (Raise b) = refl
applied-comm (Top t) (Put a) (Put b) = refl
applied-comm (Bag ns) (Add a) (Add b) = refl
applied-comm (Bag ns) (Add a) (Raise b) = refl
applied-comm (Bag ns) (Add a) (Put b) = refl
applied-comm (Bag ns) (Raise a) (Add b) = refl
applied-comm (Bag ns) (Raise a) (Raise b) = refl
applied-comm (Bag ns) (Raise a) (Put b) = refl
applied-comm (Bag ns) (Put a) (Add b) = refl
applied-comm (Bag ns) (Put a) (Raise b) = refl
applied-comm (Bag ns) (Put a) (Put b) = ap Bag (with_number-comm a b ns)

pub values_are_free_of_order : ValuesAreFreeOfOrder
values_are_free_of_order xs ys same v = fold-permutation applied applied-comm xs ys same v
