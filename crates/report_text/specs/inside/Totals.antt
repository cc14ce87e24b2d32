-- The worth of items of a kind, by the values of all items. Only the code of the summary cites it.
use Rattle.std.specs.Prelude.{◌≤◌, ℤ, pos, ◌+ℤ◌, List, [], ◌∷◌, unsigned_abs}
use Rattle.std.specs.List.{AllByRecursion}
use Rattle.commute_ops.specs.declared.kinds.Kind.{Kind}
use Rattle.commute_ops.specs.declared.kinds.TheConstants.{MOST_AMOUNT}
use Rattle.commute_ops.specs.declared.value.Value.{Value}
use Rattle.tx_trees.specs.declared.parts.ItemRow.{ItemRow}
use Rattle.report_text.specs.Summary.{number_of, part_of}

-- what the items of a kind have of these values, added up
abbrev pub kind_total : Kind → List ItemRow → List Value → ℤ
kind_total kind (row ∷ rows) (w ∷ ws) = part_of kind row.kind w +ℤ kind_total kind rows ws
kind_total kind [] ws = pos 0
kind_total kind _ _ = pos 0

-- the number of each value keeps to the bound
abbrev pub AreAmounts : List Value → Type 0
AreAmounts ws = AllByRecursion (λ (w : Value). unsigned_abs (number_of w) ≤ MOST_AMOUNT) ws
