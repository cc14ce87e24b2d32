-- What an operation makes of a value.
use Rattle.std.specs.Prelude.{ℤ, ◌+ℤ◌, Bool, true, false, []}
use Rattle.std.specs.Int.{int_max}
use Rattle.commute_ops.specs.Numbers.{is_within, with_number}
use Rattle.commute_ops.specs.declared.kinds.Kind.{Kind}
use Rattle.commute_ops.specs.declared.kinds.Kind.TheVariants.{Sum as KindSum, Top as KindTop, Bag as KindBag}
use Rattle.commute_ops.specs.declared.kinds.Op.{Op}
use Rattle.commute_ops.specs.declared.kinds.Op.TheVariants.{Add, Top as Raise, Put}
use Rattle.commute_ops.specs.declared.value.Value.{Value}
use Rattle.commute_ops.specs.declared.value.Value.TheVariants.{Sum, Top, Bag}

-- the value of a new item
abbrev pub value_start : Kind → ℤ → Value
value_start KindSum n = Sum (record { 0 = n })
value_start KindTop n = Top (record { 0 = n })
value_start KindBag _ = Bag []

-- the value is a multiset, which lies in memory of its own
abbrev pub is_bag : Value → Bool
is_bag (Bag _) = true
is_bag (Sum _) = false
is_bag (Top _) = false

-- the operation is of the value's kind
abbrev pub fits : Value → Op → Bool
fits (Sum _) (Add _) = true
fits (Top _) (Raise _) = true
fits (Bag _) (Put _) = true
fits _ _ = false

-- the operation may be applied: it is of the value's kind, and a sum stays within the bound
abbrev pub may_apply : Value → Op → Bool
may_apply (Sum s) (Add a) = is_within s.0 a
may_apply (Top _) (Raise _) = true
may_apply (Bag _) (Put _) = true
may_apply _ _ = false

-- the value after the operation
abbrev pub applied : Value → Op → Value
applied (Sum s) (Add a) = Sum (record { 0 = s.0 +ℤ a })
applied (Top t) (Raise a) = Top (record { 0 = int_max t.0 a })
applied (Bag ns) (Put n) = Bag (with_number n ns)
applied v _ = v
