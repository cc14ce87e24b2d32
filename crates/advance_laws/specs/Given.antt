-- The greatest versions of which orders were sent so far, whatever became of them.
use Rattle.std.specs.Prelude.{ℕ, ◌+◌, ◌<◌, ◌≤◌, ◌≡◌, ◌⊎◌, max, List, [], ◌∷◌}
use Rattle.letter_types.specs.declared.bodies.Body.{Body}
use Rattle.letter_types.specs.declared.bodies.Body.TheVariants.{Turn, Show, Sweep, Order}
use Rattle.letter_types.specs.declared.bodies.What.TheVariants as whats
use Rattle.letter_types.specs.declared.entries.Entry.{Entry}
use Rattle.letter_types.specs.declared.entries.Outgoing.{Outgoing}
use Rattle.node_versions.specs.declared.turns.Turns.{Turns}
use Rattle.tx_trees.specs.ScriptData.{ScriptData}
use Rattle.tx_trees.specs.Valid.{IsValid}
use Rattle.world_model.specs.Runs.{IsStepRun, node_in}
use Rattle.advance_laws.specs.Phases.{Stage, TurnStage, ShowStage, SweepStage}
use Rattle.advance_laws.specs.Quiet.{IsQuietForReads, IsQuietForUpdates}

-- the version of an order of the stage
abbrev pub version_told : Stage → Body → ℕ
version_told TurnStage (Turn v) = v.0
version_told ShowStage (Show v) = v.0
version_told SweepStage (Sweep v) = v.0
version_told TurnStage (Order e whats.Turn v) = v.0
version_told ShowStage (Order e whats.Show v) = v.0
version_told SweepStage (Order e whats.Sweep v) = v.0
version_told g _ = 0

-- the greatest that goes out
abbrev pub greatest_told : Stage → List Outgoing → ℕ
greatest_told g [] = 0
greatest_told g (o ∷ os) = max (version_told g o.body) (greatest_told g os)

-- before the first order nodes update version 1, and read and keep version 0
abbrev pub first_given : Stage → ℕ
first_given TurnStage = 1
first_given ShowStage = 0
first_given SweepStage = 0

-- the greatest version to which nodes were told to turn, which they were told to show, or to which they were told to sweep
abbrev pub greatest_given : Stage → List Entry → ℕ
greatest_given g [] = first_given g
greatest_given g (e ∷ past) = max (greatest_told g e.sent) (greatest_given g past)

-- a version is shown, or swept to, that is no later than the latest one so far, or is the next one, once it is
-- quiescent
abbrev pub IsShownAnew : ScriptData → List Entry → ℕ → Type 0
IsShownAnew s past v = (v ≤ greatest_given ShowStage past) ⊎ ((v ≡ greatest_given ShowStage past + 1) × IsQuietForUpdates s past v)

abbrev pub IsSweptAnew : ScriptData → List Entry → ℕ → Type 0
IsSweptAnew s past v = (v ≤ greatest_given SweepStage past) ⊎ ((v ≡ greatest_given SweepStage past + 1) × IsQuietForReads s past v)

-- what is told to nodes
abbrev pub IsGivenAnew : ScriptData → List Entry → Body → Type 0
IsGivenAnew s past (Show v) = IsShownAnew s past v.0
IsGivenAnew s past (Sweep v) = IsSweptAnew s past v.0
IsGivenAnew s past (Order e whats.Show v) = IsShownAnew s past v.0
IsGivenAnew s past (Order e whats.Sweep v) = IsSweptAnew s past v.0
IsGivenAnew s past _ = Unit {0}

-- two nodes are never far apart: the one updates at most two versions above what the other keeps, reads a version below the one
-- that the other updates, and keeps none above the one that the other reads
pub record KeepTogether (p q : Turns) : Type 0 where
  pub update : p.update.0 ≤ q.low.0 + 2
  pub read : p.read.0 < q.update.0
  pub low : p.low.0 ≤ q.read.0

-- in every run of every valid script
abbrev pub NodesKeepTogether : Type 0
NodesKeepTogether = (s : ScriptData) (past : List Entry) (p q : ℕ) → IsValid s → IsStepRun s past → p < s.nodes → q < s.nodes
    → KeepTogether (node_in s past p).turns (node_in s past q).turns
