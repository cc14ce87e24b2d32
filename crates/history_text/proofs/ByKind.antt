-- Values by the kinds of their items.
use Rattle.std.proofs.Common.{◌≡◌, List, ℕ}
use Rattle.std.specs.Prelude.{ℤ}
use Rattle.std.specs.Fmt.{signed_decimal}
use Rattle.commute_ops.specs.declared.kinds.Kind.TheVariants as kinds
use Rattle.commute_ops.specs.declared.value.Value.{Value}
use Rattle.commute_ops.specs.declared.value.Value.TheVariants.{Sum, Top, Bag}
use Rattle.history_text.specs.Values.{bag_text, value_text}
use Rattle.history_text.specs.Printable.{IsAmount, IsOfKind}
use Rattle.history_text.specs.Words.{IsBag}

-- what is no amount is no sum
pub no_sum : (field : List ℕ) → ((x : ℤ) → field ≡ signed_decimal x → IsAmount x → ⊥) → (w : Value) → field ≡ value_text w → IsOfKind kinds.Sum w → ⊥
no_sum field only (Sum n) is may = only n.0 is may
no_sum field only (Top n) is may = may
no_sum field only (Bag ns) is may = may

pub no_top : (field : List ℕ) → ((x : ℤ) → field ≡ signed_decimal x → IsAmount x → ⊥) → (w : Value) → field ≡ value_text w → IsOfKind kinds.Top w → ⊥
no_top field only (Sum n) is may = may
no_top field only (Top n) is may = only n.0 is may
no_top field only (Bag ns) is may = may

pub no_bag : (field : List ℕ) → ((ns : List ℤ) → field ≡ bag_text ns → IsBag ns → ⊥) → (w : Value) → field ≡ value_text w → IsOfKind kinds.Bag w → ⊥
no_bag field only (Sum n) is may = may
no_bag field only (Top n) is may = may
no_bag field only (Bag ns) is may = only ns is may
