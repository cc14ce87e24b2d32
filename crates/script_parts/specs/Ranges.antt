-- Which amounts and initial values are in range.
use Rattle.std.specs.Prelude.{Bool, false, not, ◌&&◌, ◌==◌, nat_le, ℤ, unsigned_abs}
use Rattle.std.specs.Int.{is_negative}
use Rattle.commute_ops.specs.declared.kinds.Kind.{Kind}
use Rattle.commute_ops.specs.declared.kinds.Kind.TheVariants as kinds
use Rattle.script_parts.specs.Amounts.{magnitude}
use Rattle.script_parts.specs.Forms.{most_amount}
use Rattle.script_parts.specs.declared.parts.Deed.{Deed}
use Rattle.script_parts.specs.declared.parts.Deed.TheVariants as deeds
use Rattle.script_parts.specs.declared.parts.Form.{Form}

-- an operation that lowers by a negative amount
abbrev pub draws_negative : Deed → Bool
draws_negative (deeds.Draw a) = is_negative a
draws_negative _ = false

abbrev pub is_in_range : Form → Deed → Bool
is_in_range form deed = nat_le (magnitude deed) (most_amount form) && not (draws_negative deed)

-- a bag starts empty
abbrev pub starts_full : Kind → ℤ → Bool
starts_full kinds.Bag a = not (unsigned_abs a == 0)
starts_full _ a = false

abbrev pub may_start : Form → Kind → ℤ → Bool
may_start form kind a = nat_le (unsigned_abs a) (most_amount form) && not (starts_full kind a)
