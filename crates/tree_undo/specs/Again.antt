-- What a compensated transaction is.
use Rattle.std.specs.Prelude.{ℕ, ◌<◌, List, length}
use Rattle.tx_trees.specs.Undone.{undone}
use Rattle.tx_trees.specs.Valid.{AreSubs}
use Rattle.tx_trees.specs.declared.parts.ItemRow.{ItemRow}
use Rattle.tx_trees.specs.declared.parts.Sub.{Sub}
use Rattle.tx_trees.specs.declared.parts.TreeKind.TheVariants.{Update}

-- subtransactions of an update transaction, of which one fails, are such subtransactions again in their compensated
-- form
abbrev pub AreSubsAgain : ℕ → List ItemRow → List Sub → Type 0
AreSubsAgain nodes items subs = (failed : ℕ) → failed < length subs
    → AreSubs nodes items Update 0 subs → AreSubs nodes items Update 0 (undone subs failed)
