-- What ties a history to the rows of its script: when the gate of a row is open, and what fits it.
use Rattle.std.specs.Prelude.{if◌then◌else◌, ℕ, Bool, true, false, ◌≡◌, ◌<◌, ◌==◌, ◌+◌, ◌&&◌, List, [], ◌∷◌, length, take, Some, IsTrue, slice_get}
use Rattle.std.specs.List.{list_any}
use Rattle.letter_types.specs.declared.acts.Act.{Act}
use Rattle.letter_types.specs.declared.acts.Act.TheVariants.{Born, Turned, Finished}
use Rattle.letter_types.specs.declared.entries.Entry.{Entry}
use Rattle.script_parts.specs.Counts.{advances_in}
use Rattle.script_parts.specs.ScriptData.{ScriptData, client_of}
use Rattle.script_parts.specs.declared.parts.ScriptRow.{ScriptRow}
use Rattle.script_parts.specs.declared.parts.ScriptRow.TheVariants.{Tree as TreeRow, Advance as AdvanceRow, Settle as SettleRow}
use Rattle.board_rules.specs.Histories.{Place, is_whole_in}
use Rattle.board_rules.specs.Moves.{AtEachAct, low_after, read_after, swept_to, update_after}
use Rattle.board_rules.specs.Right.{has_finished}
use Rattle.board_rules.specs.Serial.{is_version}

-- the row is a `settle`
abbrev pub is_settle_row : ScriptRow → Bool
is_settle_row SettleRow = true
is_settle_row _ = false

-- the rows before the last `settle` among these; there are none if none is among them
abbrev pub before_settle : List ScriptRow → List ScriptRow
before_settle [] = []
before_settle (r ∷ rs) = if list_any is_settle_row rs then r ∷ before_settle rs else []

-- the rows for which row i waits
abbrev pub awaited : ScriptData → ℕ → List ScriptRow
awaited s i = before_settle (take i s.rows)

-- node p has collected to version v in one of these acts
abbrev pub was_swept : ℕ → ℕ → List Place → Bool
was_swept p v xs = list_any (λ (x : Place). (x.node == p) && is_version v (swept_to x.act)) xs

-- the gate of row i is open after these acts: each transaction for which it waits is complete, and for each
-- advancement, the first of which ends with version 1, every node has collected to its version
pub record IsOpen (s : ScriptData) (xs : List Place) (i : ℕ) : Type 0 where
  pub trees : (j t : ℕ) → slice_get (awaited s i) j ≡ Some (TreeRow (record { 0 = t })) → IsTrue (is_whole_in s xs t)
  pub advances : (a p : ℕ) → a < advances_in (awaited s i) → p < s.nodes → IsTrue (was_swept p (a + 1) xs)

-- a transaction is born when the gate of its row is open
pub record IsBornByItsRow (s : ScriptData) (xs : List Place) (t : ℕ) : Type 0 where
  pub row : ℕ
  pub there : slice_get s.rows row ≡ Some (TreeRow (record { 0 = t }))
  pub gate : IsOpen s xs row

-- a node's update version is raised to v when the gate of the advance row of number v - 1 is open, counted from 1
pub record IsTurnedByItsRow (s : ScriptData) (xs : List Place) (v : ℕ) : Type 0 where
  pub row : ℕ
  pub there : slice_get s.rows row ≡ Some AdvanceRow
  pub number : advances_in (take row s.rows) + 2 ≡ v
  pub gate : IsOpen s xs row

-- the client finishes, once, when every transaction is complete and every node has gone through all advancements
pub record IsEnd (s : ScriptData) (xs : List Place) (p : ℕ) : Type 0 where
  pub client : p ≡ client_of s
  pub once : has_finished xs ≡ false
  pub whole : (t : ℕ) → t < length s.trees → IsTrue (is_whole_in s xs t)
  pub update : (p : ℕ) → p < s.nodes → update_after xs p ≡ advances_in s.rows + 1
  pub read : (p : ℕ) → p < s.nodes → read_after xs p ≡ advances_in s.rows
  pub low : (p : ℕ) → p < s.nodes → low_after xs p ≡ advances_in s.rows

-- the act of actor p keeps to the script, after the acts xs
abbrev pub KeepsToAt : ScriptData → List Place → ℕ → Act → Type 0
KeepsToAt s xs p (Born t v) = IsBornByItsRow s xs t.0
KeepsToAt s xs p (Turned v) = IsTurnedByItsRow s xs v.0
KeepsToAt s xs p Finished = IsEnd s xs p
KeepsToAt s xs p _ = Unit {0}

abbrev pub KeepsTo : ScriptData → List Place → Place → Type 0
KeepsTo s xs x = KeepsToAt s xs x.node x.act

-- each act of a history keeps to the script
abbrev pub Fits : ScriptData → List Entry → Type 0
Fits s h = AtEachAct (λ (before : List Entry). KeepsTo s) h
