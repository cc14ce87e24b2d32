-- What a script's form allows.
use Rattle.std.specs.Prelude.{ℕ}
use Rattle.commute_ops.specs.declared.kinds.TheConstants.{MOST_AMOUNT}
use Rattle.script_parts.specs.declared.parts.Form.{Form}
use Rattle.script_parts.specs.declared.parts.Form.TheVariants as forms

-- the greatest number of nodes
abbrev pub most_nodes : Form → ℕ
most_nodes forms.One = 16
most_nodes forms.Two = 64

-- the greatest magnitude of an amount, of an initial value, and of what an item's magnitudes add up to
abbrev pub most_amount : Form → ℕ
most_amount forms.One = 1000000000000000
most_amount forms.Two = MOST_AMOUNT
