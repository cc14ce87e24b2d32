-- The actors' states by their tables, and what a world has.
use Rattle.std.specs.Prelude.{ℕ, ◌+◌, ◌≡◌, List, [], ◌∷◌, ◌++◌, length, reverse, Some, slice_get}
use Rattle.client_rows.specs.Kept.{IsKeptOf}
use Rattle.letter_types.specs.declared.entries.Letter.{Letter}
use Rattle.letter_types.specs.declared.entries.Entry.{Entry}
use Rattle.node_machine.specs.State.{keeping_of}
use Rattle.tree_step.specs.Node.{IsOf}
use Rattle.tx_trees.specs.ScriptData.{ScriptData}
use Rattle.world_model.specs.Tables.{ActorData, NodeData, CoordinatorData, RestartingData, ClientData}
use Rattle.world_model.specs.Runs.{IsStepRun, actor_after, actor_in, in_flight}
use Rattle.world_core.specs.declared.actor.ActorState.{ActorState}
use Rattle.world_core.specs.declared.actor.ActorState.TheVariants.{Node, Coordinator, Restarting, Client}

-- a state as its table sees it
abbrev pub actor_data : ActorState → ActorData
actor_data (Node n) = NodeData (keeping_of n)
actor_data (Coordinator c) = CoordinatorData c
actor_data (Restarting c) = RestartingData c
actor_data (Client c) = ClientData c.client

-- a state of the script: a node counts by the script's nodes, and a client goes over its rows
abbrev pub IsFor : ScriptData → ActorState → Type 0
IsFor s (Node n) = IsOf s n.core.parts
IsFor s (Coordinator c) = Unit {0}
IsFor s (Restarting c) = Unit {0}
IsFor s (Client c) = IsKeptOf s c

-- the state of actor a after a past
pub record IsStateOf (s : ScriptData) (past : List Entry) (a : ℕ) (st : ActorState) : Type 0 where
  pub seen : actor_data st ≡ actor_in s past a
  pub script : IsFor s st

-- the states of the actors after a past, by number
abbrev pub AreStatesOf : ScriptData → List Entry → List ActorState → Type 0
AreStatesOf s past actors = (a : ℕ) (st : ActorState) → slice_get actors a ≡ Some st → IsStateOf s past a st

pub record WorldData : Type 0 where
  pub actors : List ActorState
  pub bag : List Letter
  pub history : List Entry

-- the world is one of the script: its history goes step by step, and its actors and its bag are what follows from it
pub record IsWorldOf (s : ScriptData) (w : WorldData) : Type 0 where
  pub run : IsStepRun s (reverse w.history)
  pub count : length w.actors ≡ s.nodes + 2
  pub actors : AreStatesOf s (reverse w.history) w.actors
  pub bag : w.bag ≡ in_flight s (reverse w.history)

-- an actor's state in a world is the one to which its own entries lead
abbrev pub IsLedTo : ScriptData → WorldData → ℕ → ActorState → Type 0
IsLedTo s w a st = actor_data st ≡ actor_after s w.history a

-- message k of the bag was taken: there is one entry more, and it took this message
abbrev pub TookLetter : ℕ → WorldData → WorldData → Type 0
TookLetter k old new = (e : Entry) × (new.history ≡ old.history ++ e ∷ []) × (slice_get old.bag k ≡ Some e.took)
