-- What the transactions that take effect have done to an item, as deeds with versions, and the worths that are kept of
-- all items.
use Rattle.std.specs.Prelude.{if◌then◌else◌, ℕ, ◌≡◌, ◌==◌, List, [], ◌∷◌, ◌++◌, length, IsTrue, Option, Some, None, slice_get}
use Rattle.script_parts.specs.ScriptData.{ScriptData, subs_at}
use Rattle.script_parts.specs.Valid.{IsValid}
use Rattle.script_parts.specs.declared.parts.ItemRow.{ItemRow}
use Rattle.script_parts.specs.declared.parts.Sub.{Sub}
use Rattle.script_parts.specs.declared.parts.SubOp.{SubOp}
use Rattle.board_rules.specs.Histories.{Place, version_in, version_or}
use Rattle.board_rules.specs.Worth.{first_value}
use Rattle.worth_steps.specs.Kept.{AreWorths, WorthsData}
use Rattle.worth_steps.specs.Worth.{Noted, deed_suits}
use Rattle.board_judge.specs.Settled.{IsMoveRun, settled_order}

-- the deeds of operations on item x, in version v
abbrev pub ops_noted : ℕ → ℕ → List SubOp → List Noted
ops_noted v x [] = []
ops_noted v x (o ∷ os) =
    if o.item.0 == x then record { version = v; deed = o.deed } ∷ ops_noted v x os else ops_noted v x os

abbrev pub subs_noted : ℕ → ℕ → List Sub → List Noted
subs_noted v x [] = []
subs_noted v x (sub ∷ subs) = ops_noted v x sub.ops ++ subs_noted v x subs

-- those of a transaction, in its version
abbrev pub tree_noted : ScriptData → List Place → ℕ → ℕ → List Noted
tree_noted s xs x t = subs_noted (version_or 0 (version_in t xs)) x (subs_at s t)

abbrev pub trees_noted : ScriptData → List Place → ℕ → List ℕ → List Noted
trees_noted s xs x [] = []
trees_noted s xs x (t ∷ ts) = tree_noted s xs x t ++ trees_noted s xs x ts

-- those of all transactions that take effect, in order of closing
abbrev pub noted_on : ScriptData → List Place → ℕ → List Noted
noted_on s xs x = trees_noted s xs x (settled_order s xs)

-- what is kept of each item is its worths after these acts
pub record AreAllWorths (s : ScriptData) (xs : List Place) (ws : List WorthsData) : Type 0 where
  pub count : length ws ≡ length s.items
  pub each : (x : ℕ) (w : WorthsData) → slice_get ws x ≡ Some w → AreWorths (first_value (slice_get s.items x)) (noted_on s xs x) w

-- and all of these acts were moves of the script's Board
pub record AreKnown (s : ScriptData) (xs : List Place) (ws : List WorthsData) : Type 0 where
  pub valid : IsValid s
  pub run : IsMoveRun s xs
  pub worths : AreAllWorths s xs ws

-- what holds of whatever acts of whatever script these worths are after
abbrev pub OfKnown : List WorthsData → (ScriptData → List Place → Type 0) → Type 0
OfKnown ws P = (s : ScriptData) (xs : List Place) → AreKnown s xs ws → P s xs

-- the operation is on an item of the script, of a kind that has such deeds
abbrev pub SuitsAt : SubOp → Option ItemRow → Type 0
SuitsAt o None = ⊥
SuitsAt o (Some row) = IsTrue (deed_suits row.kind o.deed)

abbrev pub Suits : ScriptData → SubOp → Type 0
Suits s o = SuitsAt o (slice_get s.items o.item.0)
