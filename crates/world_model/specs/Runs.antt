-- Histories that the tables allow.
use Rattle.std.specs.Prelude.{if◌then◌else◌, ℕ, ◌==◌, ◌+◌, ◌<◌, ◌≡◌, nat_lt, true, false, List, [], ◌∷◌, length, map, Some}
use Rattle.letter_types.specs.declared.entries.Letter.{Letter}
use Rattle.letter_types.specs.declared.entries.Entry.{Entry}
use Rattle.letter_types.specs.Letters.{find_id, own}
use Rattle.letter_types.specs.Letters.{in_flight_after as in_flight_for}
use Rattle.letter_types.specs.Postal.{IsMessageRun, delivery_of}
use Rattle.letter_types.specs.Steps.{Out}
use Rattle.script_parts.specs.ScriptData.{ScriptData, client_of}
use Rattle.world_model.specs.Node.{Node}
use Rattle.world_model.specs.Keeping.{KeepingNode, keeping_row, start_keeping}
use Rattle.world_model.specs.Coordinator.{Coordinator, start_coordinator}
use Rattle.world_model.specs.Client.{Client, start_client}
use Rattle.world_model.specs.Tables.{ActorData, NodeData, CoordinatorData, RestartingData, ClientData, start_actor, actor_row, wide_actor_row, coordinator_table, restarting_table, client_table}
use Rattle.world_model.specs.Restarting.{Restarting, start_restarting}
use Rattle.script_parts.specs.Counts.{is_lossy}

-- The public shape: the messages went as messages do, and each actor's own entries, in order, are a run of its table.

-- these entries are a run of a table from a state
abbrev pub IsRunOf : {St : Type 0} → (St → Letter → Out St) → St → List Entry → Type 0
IsRunOf row st [] = Unit {0}
IsRunOf row st (e ∷ es) =
    (e.sent ≡ (row st e.took).sent) × (e.acts ≡ (row st e.took).acts) × IsRunOf row (row st e.took).state es

-- the state after these entries
abbrev pub after : {St : Type 0} → (St → Letter → Out St) → St → List Entry → St
after row st [] = st
after row st (e ∷ es) = after row (row st e.took).state es

-- a run by tables: messages went as messages do, and each actor's own entries are a run of its table from its start
pub record IsWorldRun (s : ScriptData) (h : List Entry) : Type 0 where
  pub postal : IsMessageRun (client_of s) (map delivery_of h)
  pub actors : (a : ℕ) → a < s.nodes + 2 → IsRunOf (actor_row s a) (start_actor s a) (own a h)

-- the same by the wider condition of being enabled
pub record IsWideRun (s : ScriptData) (h : List Entry) : Type 0 where
  pub postal : IsMessageRun (client_of s) (map delivery_of h)
  pub actors : (a : ℕ) → a < s.nodes + 2 → IsRunOf (wide_actor_row s a) (start_actor s a) (own a h)

-- the state to which actor a's own entries lead
abbrev pub actor_after : ScriptData → List Entry → ℕ → ActorData
actor_after s h a = after (actor_row s a) (start_actor s a) (own a h)

-- The shape for proofs: one entry after the other. A past has the newest entry first, and the messages in flight and
-- the states are functions of it.

-- the messages in flight after a past
abbrev pub in_flight : ScriptData → List Entry → List Letter
in_flight s past = in_flight_for (client_of s) past

abbrev pub keeping_in : ScriptData → List Entry → ℕ → KeepingNode
keeping_in s [] p = start_keeping s p
keeping_in s (e ∷ past) p =
    if e.actor.0 == p then (keeping_row s p (keeping_in s past p) e.took).state else keeping_in s past p

-- what commuting transactions see of a node
abbrev pub node_in : ScriptData → List Entry → ℕ → Node
node_in s past p = (keeping_in s past p).core.node

abbrev pub coordinator_in : ScriptData → List Entry → Coordinator
coordinator_in s [] = start_coordinator s.nodes
coordinator_in s (e ∷ past) =
    if e.actor.0 == s.nodes then (coordinator_table (coordinator_in s past) e.took).state else coordinator_in s past

abbrev pub restarting_in : ScriptData → List Entry → Restarting
restarting_in s [] = start_restarting s.nodes
restarting_in s (e ∷ past) =
    if e.actor.0 == s.nodes then (restarting_table (restarting_in s past) e.took).state else restarting_in s past

abbrev pub client_in : ScriptData → List Entry → Client
client_in s [] = start_client s
client_in s (e ∷ past) =
    if e.actor.0 == client_of s then (client_table s (client_in s past) e.took).state else client_in s past

-- the coordinator that the script has
abbrev pub coordination_in : ScriptData → List Entry → ActorData
coordination_in s past = if is_lossy s then RestartingData (restarting_in s past) else CoordinatorData (coordinator_in s past)

-- actor a after a past: the nodes, then the coordinator, then the client
abbrev pub actor_in : ScriptData → List Entry → ℕ → ActorData
actor_in s past a =
    if nat_lt a s.nodes then NodeData (keeping_in s past a)
    else if a == s.nodes then coordination_in s past else ClientData (client_in s past)

-- the table says these messages and these acts
abbrev pub Says : {St : Type 0} → Out St → Entry → Type 0
Says out e = (e.sent ≡ out.sent) × (e.acts ≡ out.acts)

-- whose step an entry is
pub data Moves (s : ScriptData) (past : List Entry) (e : Entry) : Type 0 where
  AtNode : e.actor.0 < s.nodes → Says (keeping_row s e.actor.0 (keeping_in s past e.actor.0) e.took) e → Moves s past e
  AtCoordinator : e.actor.0 ≡ s.nodes → is_lossy s ≡ false → Says (coordinator_table (coordinator_in s past) e.took) e → Moves s past e
  AtRestarting : e.actor.0 ≡ s.nodes → is_lossy s ≡ true → Says (restarting_table (restarting_in s past) e.took) e → Moves s past e
  AtClient : e.actor.0 ≡ client_of s → Says (client_table s (client_in s past) e.took) e → Moves s past e

-- an entry may come next
pub record MayFollow (s : ScriptData) (past : List Entry) (e : Entry) : Type 0 where
  pub stamp : e.stamp.0 ≡ length past + 1
  pub waits : find_id e.took.id (in_flight s past) ≡ Some e.took
  pub addressee : e.took.to.0 ≡ e.actor.0
  pub moves : Moves s past e

abbrev pub IsStepRun : ScriptData → List Entry → Type 0
IsStepRun s [] = Unit {0}
IsStepRun s (e ∷ past) = MayFollow s past e × IsStepRun s past
