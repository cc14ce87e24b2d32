-- What holds of orders, answers and versions in each phase of an advancement.
use Rattle.std.specs.Prelude.{ℕ, ◌+◌, ◌-◌, ◌<◌, ◌≤◌, ◌≡◌, true, List}
use Rattle.letter_types.specs.declared.bodies.Body.{Body}
use Rattle.letter_types.specs.declared.bodies.Body.TheVariants.{Turn, Show, Sweep, Turned, Shown, Swept}
use Rattle.letter_types.specs.declared.bodies.What.{What}
use Rattle.letter_types.specs.declared.bodies.What.TheVariants as whats
use Rattle.letter_types.specs.declared.entries.Entry.{Entry}
use Rattle.letter_types.specs.declared.entries.Letter.{Letter}
use Rattle.node_versions.specs.declared.turns.Turns.{Turns}
use Rattle.tx_trees.specs.ScriptData.{ScriptData}
use Rattle.world_model.specs.declared.phase.Phase.{Phase}
use Rattle.world_model.specs.declared.phase.Phase.TheVariants.{Idle, Turning, Counting, Paused, Showing, Sweeping}
use Rattle.world_model.specs.Counts.{tally}
use Rattle.world_model.specs.Runs.{coordinator_in, node_in, in_flight}

-- a number over the bodies of the messages in flight
abbrev pub count_in_flight : (Body → ℕ) → ScriptData → List Entry → ℕ
count_in_flight f s past = tally (λ (l : Letter). f l.body) (in_flight s past)

-- the three things that all nodes are told in an advancement
pub data Stage : Type 0 where
  TurnStage : Stage
  ShowStage : Stage
  SweepStage : Stage

-- the stage of which it tells
abbrev pub stage_of : What → Stage
stage_of whats.Turn = TurnStage
stage_of whats.Show = ShowStage
stage_of whats.Sweep = SweepStage

-- an order of the stage, or an answer to one
abbrev pub token : Stage → Body → ℕ
token TurnStage (Turn v) = 1
token TurnStage (Turned v) = 1
token ShowStage (Show v) = 1
token ShowStage (Shown v) = 1
token SweepStage (Sweep v) = 1
token SweepStage (Swept v) = 1
token g _ = 0

-- a number that counts in the stage's phase alone
abbrev pub within : Stage → Phase → ℕ → ℕ
within TurnStage Turning k = k
within ShowStage Showing k = k
within SweepStage Sweeping k = k
within g phase k = 0

-- orders and answers in flight and acknowledgements are as many as nodes in the stage's phase, and none at other times
abbrev pub Told : ScriptData → List Entry → Stage → Type 0
Told s past g =
    count_in_flight (token g) s past + within g (coordinator_in s past).phase (coordinator_in s past).acks
    ≡ within g (coordinator_in s past).phase s.nodes

-- the least and the greatest update version of a node, in each phase of an advancement from update version u
abbrev pub least_update : Phase → ℕ → ℕ
least_update Idle u = u
least_update Turning u = u
least_update _ u = u + 1

abbrev pub most_update : Phase → ℕ → ℕ
most_update Idle u = u
most_update _ u = u + 1

-- the least and the greatest read version
abbrev pub least_read : Phase → ℕ → ℕ
least_read (Counting true) u = u
least_read (Paused true) u = u
least_read Sweeping u = u
least_read _ u = u - 1

abbrev pub most_read : Phase → ℕ → ℕ
most_read (Counting true) u = u
most_read (Paused true) u = u
most_read Sweeping u = u
most_read Showing u = u
most_read _ u = u - 1

-- the greatest low version; the least is always the one before u
abbrev pub most_low : Phase → ℕ → ℕ
most_low Sweeping u = u
most_low _ u = u - 1

-- the versions of a node in a phase of an advancement from update version u: each between its least and its greatest,
-- the low version the least of the three, and none more than two above it
pub record IsInPhase (phase : Phase) (u : ℕ) (turns : Turns) : Type 0 where
  pub update_from : least_update phase u ≤ turns.update.0
  pub update_to : turns.update.0 ≤ most_update phase u
  pub read_from : least_read phase u ≤ turns.read.0
  pub read_to : turns.read.0 ≤ most_read phase u
  pub low_from : u - 1 ≤ turns.low.0
  pub low_to : turns.low.0 ≤ most_low phase u
  pub low_update : turns.low.0 ≤ turns.update.0
  pub low_read : turns.low.0 ≤ turns.read.0
  pub update_near : turns.update.0 ≤ turns.low.0 + 2
  pub read_near : turns.read.0 ≤ turns.low.0 + 2

-- The laws' statements.
-- in the phase of each stage its orders and answers in flight and the acknowledgements are as many as nodes, and at
-- other times there are none
abbrev pub PhasesHaveTheirLetters : ScriptData → List Entry → Type 0
PhasesHaveTheirLetters s past = (g : Stage) → Told s past g

-- every node's versions are those of the coordinator's phase
abbrev pub VersionsKeepToThePhase : ScriptData → List Entry → Type 0
VersionsKeepToThePhase s past =
    (p : ℕ) → p < s.nodes
    → IsInPhase (coordinator_in s past).phase (coordinator_in s past).update (node_in s past p).turns
