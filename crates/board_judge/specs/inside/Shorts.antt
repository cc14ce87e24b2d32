-- What operations see of their items, by what these are worth after acts: what gets show, and draws that find too
-- little.
use Rattle.std.specs.Prelude.{ℕ, Bool, true, false, List, [], ◌∷◌, Option, None, ◌≡◌, ◌<◌, length, Decides}
use Rattle.std.specs.Option.{option_or}
use Rattle.letter_types.specs.declared.votes.Cause.{Cause}
use Rattle.letter_types.specs.Causes.{short_cause}
use Rattle.script_parts.specs.Deeds.{found_short}
use Rattle.script_parts.specs.ScriptData.{ScriptData}
use Rattle.script_parts.specs.declared.parts.Deed.{Deed}
use Rattle.script_parts.specs.declared.parts.Deed.TheVariants as deeds
use Rattle.script_parts.specs.declared.parts.SubOp.{SubOp}
use Rattle.board_rules.specs.Histories.{Place}
use Rattle.board_rules.specs.Worth.{worth_in}
use Rattle.tv_base.specs.declared.numbers.ItemNo.{ItemNo}
use Rattle.commute_ops.specs.declared.value.Value.{Value}
use Rattle.board_rules.specs.Right.{gets_among, with_worths}
use Rattle.worth_steps.specs.Kept.{WorthsData}
use Rattle.board_judge.specs.Notes.{OfKnown}
use Rattle.board_judge.specs.Views.{AreThere}

-- the deed lowers its item
abbrev pub draws : Deed → Bool
draws (deeds.Draw n) = true
draws deeds.Get = false
draws (deeds.Set n) = false
draws (deeds.Apply op) = false

-- an operation that draws more than its item is worth at version v after these acts, and the first of some, as a cause
abbrev pub short_item : ScriptData → List Place → ℕ → SubOp → Option Cause
short_item s xs v o = short_cause o.item (found_short o.deed (worth_in s xs o.item.0 v))

abbrev pub short_ops : ScriptData → List Place → ℕ → List SubOp → Option Cause
short_ops s xs v [] = None
short_ops s xs v (o ∷ os) = option_or (short_item s xs v o) (short_ops s xs v os)

-- what is said by worths, of whatever acts they are after. The values are what the items of the gets are worth at
-- version v; and the pair is the item with what it is worth
abbrev pub DecidesShown : List WorthsData → ℕ → List SubOp → List (ItemNo × Value) → Bool → Type 0
DecidesShown ws v ops values shows = OfKnown ws (λ s xs. AreThere s ops
    → Decides shows (values ≡ with_worths (λ (x : ℕ). worth_in s xs x v) (gets_among ops)))

abbrev pub DecidesWorth : List WorthsData → ℕ → ItemNo → ItemNo × Value → Bool → Type 0
DecidesWorth ws v item value is =
    OfKnown ws (λ s xs. item.0 < length s.items → Decides is (value ≡ (item, worth_in s xs item.0 v)))

-- the first of these operations that finds too little at version v; and what one of them finds
abbrev pub NamesShort : List WorthsData → ℕ → List SubOp → Option Cause → Type 0
NamesShort ws v ops cause = OfKnown ws (λ s xs. AreThere s ops → cause ≡ short_ops s xs v ops)

abbrev pub NamesShortOf : List WorthsData → ℕ → SubOp → Option Cause → Type 0
NamesShortOf ws v op cause = OfKnown ws (λ s xs. op.item.0 < length s.items → cause ≡ short_item s xs v op)
