-- A script that goes on from another one, and what a run, a schedule and its client make of that.
use Rattle.std.specs.Prelude.{ℕ, false, ◌≡◌, ◌<◌, ◌-◌, List, ◌++◌, length, Option, Some}
use Rattle.letter_types.specs.declared.entries.Entry.{Entry}
use Rattle.script_parts.specs.Adding.{last_of}
use Rattle.script_parts.specs.Counts.{has_strict, is_lossy}
use Rattle.script_parts.specs.ScriptData.{ScriptData}
use Rattle.script_parts.specs.Valid.{IsValid}
use Rattle.script_parts.specs.declared.parts.ScriptRow.TheVariants.{Settle}
pub use Rattle.world_model.specs.Client.{with_places}
use Rattle.world_model.specs.Runs.{IsStepRun, actor_in, client_in, in_flight}
use Rattle.world_model.specs.Scheduled.{number_for, waiting_at}
use Rattle.world_model.specs.Tables.{ActorData, ClientData, CoordinatorData, NodeData, RestartingData}

-- the second list begins with the first: it has more behind it, or nothing
abbrev pub IsFront : {X : Type 0} → List X → List X → Type 0
IsFront {X} xs ys = (more : List X) × (ys ≡ xs ++ more)

-- Script t goes on from script s: it has the same nodes, items and picks, and more transactions and rows behind those
-- of s. It has strict transactions only if s has some, and rows that make the coordinator forget only if s has some.
pub record Extends (s t : ScriptData) : Type 0 where
  pub form : t.form ≡ s.form
  pub nodes : t.nodes ≡ s.nodes
  pub items : t.items ≡ s.items
  pub picks : t.picks ≡ s.picks
  pub trees : IsFront s.trees t.trees
  pub rows : IsFront s.rows t.rows
  pub strict : has_strict t ≡ has_strict s
  pub lossy : is_lossy t ≡ is_lossy s

-- the client has rows of the script still to submit: it waits at one of its settle rows
abbrev pub HasRowsLeft : ScriptData → List Entry → Type 0
HasRowsLeft s past = (client_in s past).next < length s.rows

-- an actor of a script with that many more transactions: a node and a coordinator know nothing of these
abbrev pub grown_actor : ℕ → ActorData → ActorData
grown_actor k (NodeData n) = NodeData n
grown_actor k (CoordinatorData c) = CoordinatorData c
grown_actor k (RestartingData c) = RestartingData c
grown_actor k (ClientData c) = ClientData (with_places k c)

-- the past is a run of script t too, with the messages in flight and the actors that it has as a run of s, but for the
-- places that the client has in t
pub record IsRunOfBoth (s t : ScriptData) (past : List Entry) : Type 0 where
  pub run : IsStepRun t past
  pub letters : in_flight t past ≡ in_flight s past
  pub actors : (a : ℕ) → actor_in t past a ≡ grown_actor (length t.trees - length s.trees) (actor_in s past a)

-- a run in which the client has rows left is a run of each script that goes on from this one
abbrev pub RunsGrow : Type 0
RunsGrow =
    (s t : ScriptData) (past : List Entry) → IsValid s → Extends s t → IsStepRun s past → HasRowsLeft s past
    → IsRunOfBoth s t past

-- if the rows end with a settle row, the client has rows left until it finishes
abbrev pub ClientsWait : Type 0
ClientsWait =
    (s : ScriptData) (past : List Entry) → last_of s.rows ≡ Some Settle → IsStepRun s past
    → (client_in s past).finished ≡ false → HasRowsLeft s past

-- a schedule finds the same messages before each entry, and has the same number for it
abbrev pub SchedulesGrow : Type 0
SchedulesGrow =
    (s t : ScriptData) (seed : Option ℕ) (h : List Entry) (k : ℕ) → Extends s t
    → (waiting_at t h k ≡ waiting_at s h k) × (number_for t.picks seed k ≡ number_for s.picks seed k)

-- each script goes on from itself, and from those from which one goes on that it goes on from
pub record GrowingIsAnOrder : Type 0 where
  pub itself : (s : ScriptData) → Extends s s
  pub further : (s t u : ScriptData) → Extends s t → Extends t u → Extends s u
