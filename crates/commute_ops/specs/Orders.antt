-- Operations that may change places give the same in any order.
use Rattle.std.specs.Prelude.{◌≡◌, List}
use Rattle.std.specs.List.{fold}
use Rattle.std.specs.List.Sorted.{IsPermutation}
use Rattle.commute_ops.specs.declared.kinds.Op.{Op}
use Rattle.commute_ops.specs.declared.value.Value.{Value}
use Rattle.commute_ops.specs.Ops.{applied}

-- if any two operations may change places, a list of operations gives the same in any order
abbrev pub IsFreeOfOrder : Type 0 → Type 0 → Type 0
IsFreeOfOrder S O =
    (applied : S → O → S) → ((s : S) (a b : O) → applied (applied s a) b ≡ applied (applied s b) a)
    → (xs ys : List O) → IsPermutation xs ys → (s : S) → fold applied s ys ≡ fold applied s xs

-- operations on a value give the same in any order
abbrev pub ValuesAreFreeOfOrder : Type 0
ValuesAreFreeOfOrder = (xs ys : List Op) → IsPermutation xs ys → (v : Value) → fold applied v ys ≡ fold applied v xs
