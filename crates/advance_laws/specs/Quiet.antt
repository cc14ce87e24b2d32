-- When a version is quiescent, and which orders are given only for a quiescent version.
use Rattle.std.specs.Prelude.{ℕ, ◌-◌, ◌<◌, ◌≤◌, ◌≡◌, List}
use Rattle.letter_types.specs.declared.bodies.Body.{Body}
use Rattle.letter_types.specs.declared.bodies.Body.TheVariants.{Show, Sweep, Order}
use Rattle.letter_types.specs.declared.bodies.What.TheVariants as whats
use Rattle.letter_types.specs.declared.entries.Entry.{Entry}
use Rattle.tx_trees.specs.ScriptData.{ScriptData}
use Rattle.world_model.specs.Runs.{node_in}
use Rattle.advance_laws.specs.Balance.{out}

-- no counted message of version v is outstanding between nodes: none is in flight, and none is deferred
abbrev pub IsSilent : ScriptData → List Entry → ℕ → Type 0
IsSilent s past v = (p q : ℕ) → p < s.nodes → q < s.nodes → out s past v p q ≡ 0

-- no counted message of version v is outstanding, and every node updates above it
pub record IsQuietForUpdates (s : ScriptData) (past : List Entry) (v : ℕ) : Type 0 where
  pub silent : IsSilent s past v
  pub above : (p : ℕ) → p < s.nodes → v < (node_in s past p).turns.update.0

-- no counted message of the version before v is outstanding, and every node reads v or a later version
pub record IsQuietForReads (s : ScriptData) (past : List Entry) (v : ℕ) : Type 0 where
  pub silent : IsSilent s past (v - 1)
  pub above : (p : ℕ) → p < s.nodes → v ≤ (node_in s past p).turns.read.0

-- a version is shown if it is quiescent for updates, and swept to if the one before it is quiescent for reads
abbrev pub IsGivenInQuiet : ScriptData → List Entry → Body → Type 0
IsGivenInQuiet s past (Show v) = IsQuietForUpdates s past v.0
IsGivenInQuiet s past (Sweep v) = IsQuietForReads s past v.0
IsGivenInQuiet s past (Order e whats.Show v) = IsQuietForUpdates s past v.0
IsGivenInQuiet s past (Order e whats.Sweep v) = IsQuietForReads s past v.0
IsGivenInQuiet s past _ = Unit {0}
