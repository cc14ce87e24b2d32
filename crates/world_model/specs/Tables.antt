-- How each actor begins, and what it does with a message: one table for all of them.
use Rattle.std.specs.Prelude.{if◌then◌else◌, ℕ, ◌==◌, nat_lt}
use Rattle.script_parts.specs.ScriptData.{ScriptData}
use Rattle.letter_types.specs.declared.entries.Letter.{Letter}
use Rattle.letter_types.specs.Steps.{Out}
use Rattle.world_model.specs.Keeping.{KeepingNode, keeping_row, start_keeping, wide_keeping_row}
use Rattle.world_model.specs.Coordinator.{Coordinator, start_coordinator, coordinator_row}
use Rattle.world_model.specs.Restarting.{Restarting, restarting_row, start_restarting}
use Rattle.world_model.specs.Client.{Client, start_client, client_row}
use Rattle.script_parts.specs.Counts.{is_lossy}

-- the state of an actor, as its table sees it
pub data ActorData : Type 0 where
  NodeData : KeepingNode → ActorData
  CoordinatorData : Coordinator → ActorData
  RestartingData : Restarting → ActorData
  ClientData : Client → ActorData

-- the coordinator at the start: one that may forget if the script has a row that makes it
abbrev pub start_coordination : ScriptData → ActorData
start_coordination s = if is_lossy s then RestartingData (start_restarting s.nodes) else CoordinatorData (start_coordinator s.nodes)

-- actor a at the start: the nodes come first, then the coordinator, then the client
abbrev pub start_actor : ScriptData → ℕ → ActorData
start_actor s a =
    if nat_lt a s.nodes then NodeData (start_keeping s a)
    else if a == s.nodes then start_coordination s else ClientData (start_client s)

-- what comes of a message, seen as the state of an actor
abbrev pub as_actor : {St : Type 0} → (St → ActorData) → Out St → Out ActorData
as_actor see out = record { state = see out.state; sent = out.sent; acts = out.acts }

-- the rows of coordinators and of the client for a message
abbrev pub coordinator_table : Coordinator → Letter → Out Coordinator
coordinator_table c l = coordinator_row c l.from.0 l.body

abbrev pub restarting_table : Restarting → Letter → Out Restarting
restarting_table c l = restarting_row c l.from.0 l.body

abbrev pub client_table : ScriptData → Client → Letter → Out Client
client_table s c l = client_row s c l.body

-- what actor a does with a message
abbrev pub actor_row : ScriptData → ℕ → ActorData → Letter → Out ActorData
actor_row s a (NodeData n) l = as_actor NodeData (keeping_row s a n l)
actor_row s a (CoordinatorData c) l = as_actor CoordinatorData (coordinator_table c l)
actor_row s a (RestartingData c) l = as_actor RestartingData (restarting_table c l)
actor_row s a (ClientData c) l = as_actor ClientData (client_table s c l)

-- the same by the wider condition of being enabled, which has no window of versions
abbrev pub wide_actor_row : ScriptData → ℕ → ActorData → Letter → Out ActorData
wide_actor_row s a (NodeData n) l = as_actor NodeData (wide_keeping_row s a n l)
wide_actor_row s a (CoordinatorData c) l = as_actor CoordinatorData (coordinator_table c l)
wide_actor_row s a (RestartingData c) l = as_actor RestartingData (restarting_table c l)
wide_actor_row s a (ClientData c) l = as_actor ClientData (client_table s c l)
