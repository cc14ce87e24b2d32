-- What deeds make of values.
use Rattle.std.specs.Prelude.{if◌then◌else◌, Bool, true, false, ℤ, ◌-ℤ◌, int_lt, Option, Some, None}
use Rattle.commute_ops.specs.declared.value.Value.{Value}
use Rattle.commute_ops.specs.declared.value.Value.TheVariants.{Sum, Top, Bag}
use Rattle.commute_ops.specs.Ops.{applied}
use Rattle.script_parts.specs.declared.parts.Deed.{Deed}
use Rattle.script_parts.specs.declared.parts.Deed.TheVariants as deeds

-- the number of a sum or a top set to n; a bag stays
abbrev pub with_set : ℤ → Value → Value
with_set n (Sum old) = Sum (record { 0 = n })
with_set n (Top old) = Top (record { 0 = n })
with_set n (Bag ns) = Bag ns

-- a sum lowered by n; other values stay
abbrev pub with_drawn : ℤ → Value → Value
with_drawn n (Sum old) = Sum (record { 0 = old.0 -ℤ n })
with_drawn n w = w

-- the value after a deed
abbrev pub after_deed : Deed → Value → Value
after_deed (deeds.Apply op) w = applied w op
after_deed deeds.Get w = w
after_deed (deeds.Set n) w = with_set n w
after_deed (deeds.Draw n) w = with_drawn n w

-- the operation writes over what is newer
abbrev pub overwrites : Deed → Bool
overwrites (deeds.Set n) = true
overwrites (deeds.Draw n) = true
overwrites _ = false

-- the value that is found, if it is less than what is drawn
abbrev pub found_short : Deed → Value → Option ℤ
found_short (deeds.Draw n) (Sum found) = if int_lt found.0 n then Some found.0 else None
found_short _ _ = None
