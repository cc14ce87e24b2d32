-- The gates of a script's rows: what stands before the last `settle` above each of them.
use Rattle.std.specs.Prelude.{if◌then◌else◌, ℕ, Bool, true, false, ◌≡◌, ◌+◌, List, [], ◌∷◌, length, take, Some, slice_get}
use Rattle.script_parts.specs.Counts.{is_advance}
use Rattle.script_parts.specs.ScriptData.{ScriptData}
use Rattle.script_parts.specs.declared.parts.ScriptRow.{ScriptRow}
use Rattle.script_parts.specs.declared.parts.ScriptRow.TheVariants as rows
use Rattle.board_rules.specs.Gates.{before_settle}
use Rattle.board_tallies.specs.declared.gates.RowGate.{RowGate}

-- the row is a transaction's
abbrev pub is_tree_row : ScriptRow → Bool
is_tree_row (rows.Tree t) = true
is_tree_row rows.Advance = false
is_tree_row rows.Settle = false
is_tree_row rows.Lose = false

-- how many of these rows pass a test
abbrev pub rows_passing : (ScriptRow → Bool) → List ScriptRow → ℕ
rows_passing test [] = 0
rows_passing test (r ∷ rs) = (if test r then 1 else 0) + rows_passing test rs

-- how many transactions, and how many advancements, stand before the last `settle` among these rows
abbrev pub gate_behind : List ScriptRow → RowGate
gate_behind rs = record {
  trees = rows_passing is_tree_row (before_settle rs);
  advances = rows_passing is_advance (before_settle rs);
}

-- these are the gates of the rows that pass a test, in order: each says what stands before the last `settle` above its row
pub record AreGatesFor (test : ScriptRow → Bool) (rs : List ScriptRow) (gates : List RowGate) : Type 0 where
  pub there : (i : ℕ) (r : ScriptRow) → slice_get rs i ≡ Some r → test r ≡ true
      → slice_get gates (rows_passing test (take i rs)) ≡ Some (gate_behind (take i rs))
  pub many : length gates ≡ rows_passing test rs
  pub each : (k : ℕ) (gate : RowGate) → slice_get gates k ≡ Some gate
      → (i : ℕ) × (r : ScriptRow) × (slice_get rs i ≡ Some r) × (test r ≡ true) × (rows_passing test (take i rs) ≡ k)

-- the gates of the tree rows and of the `advance` rows
pub record GatesData : Type 0 where
  pub trees : List RowGate
  pub advances : List RowGate

-- they are those of the script
pub record AreGatesOf (s : ScriptData) (g : GatesData) : Type 0 where
  pub trees : AreGatesFor is_tree_row s.rows g.trees
  pub advances : AreGatesFor is_advance s.rows g.advances
