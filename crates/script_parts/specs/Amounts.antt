-- The amounts that operations name.
use Rattle.std.specs.Prelude.{ℕ, unsigned_abs}
use Rattle.commute_ops.specs.declared.kinds.Op.{Op}
use Rattle.commute_ops.specs.declared.kinds.Op.TheVariants.{Add, Top, Put}
use Rattle.script_parts.specs.declared.parts.Deed.{Deed}
use Rattle.script_parts.specs.declared.parts.Deed.TheVariants.{Apply, Get, Set, Draw}

-- the magnitude of an amount that an operation names
abbrev pub op_magnitude : Op → ℕ
op_magnitude (Add a) = unsigned_abs a
op_magnitude (Top a) = unsigned_abs a
op_magnitude (Put a) = unsigned_abs a

abbrev pub magnitude : Deed → ℕ
magnitude (Apply op) = op_magnitude op
magnitude Get = 0
magnitude (Set a) = unsigned_abs a
magnitude (Draw a) = unsigned_abs a
