-- Causes of votes.
use Rattle.std.specs.Prelude.{ℤ, Option, Some, None}
use Rattle.tv_base.specs.declared.numbers.ItemNo.{ItemNo}
use Rattle.letter_types.specs.declared.votes.Cause.{Cause}
use Rattle.letter_types.specs.declared.votes.Cause.TheVariants.{Short}

-- if a value is short of what is drawn from item x, that is a cause
abbrev pub short_cause : ItemNo → Option ℤ → Option Cause
short_cause x None = None
short_cause x (Some found) = Some (Short x found)
