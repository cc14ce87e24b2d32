-- A world whose script goes on, place by place.
use Rattle.std.specs.Prelude.{if◌then◌else◌, ◌≡◌, Bool, false, List, [], ◌∷◌, ℕ, ◌≤◌, length, ⊤}
use Rattle.client_rows.specs.Changes.{with_all_places}
use Rattle.letter_types.specs.declared.acts.Act.{Act}
use Rattle.letter_types.specs.declared.acts.Act.TheVariants.{Finished}
use Rattle.letter_types.specs.declared.entries.Letter.{Letter}
use Rattle.world_model.specs.Client.{client_row}
use Rattle.script_parts.specs.ScriptData.{ScriptData}
use Rattle.world_core.specs.declared.actor.ActorState.{ActorState}
use Rattle.world_core.specs.declared.actor.ActorState.TheVariants.{Node, Coordinator, Restarting, Client}
use Rattle.growth_laws.specs.Growth.{with_places}

-- the state of an actor of a script with that many more transactions: the client has places for their answers
abbrev pub grown_state : ℕ → ActorState → ActorState
grown_state k (Node n) = Node n
grown_state k (Coordinator c) = Coordinator c
grown_state k (Restarting c) = Restarting c
grown_state k (Client c) = Client (record c { client = with_places k c.client })

-- the client has no more places for answers than the script has transactions
abbrev pub HasNoMorePlaces : ScriptData → ActorState → Type 0
HasNoMorePlaces s (Client c) = length c.client.answered ≤ length s.trees
HasNoMorePlaces s _ = ⊤

-- the client has a place for the answer of each of them
abbrev pub with_more_places : ScriptData → ActorState → ActorState
with_more_places s (Client c) = Client (with_all_places s c)
with_more_places s st = st

-- the acts that the client has if it finishes, and if it doesn't
abbrev pub end_acts : Bool → List Act
end_acts ends = if ends then Finished ∷ [] else []

-- whether an actor is the client and finishes with a message
abbrev pub IsEndOf : ScriptData → Letter → ActorState → Bool → Type 0
IsEndOf s l (Client c) ends = (client_row s c.client l.body).acts ≡ end_acts ends
IsEndOf s l _ ends = ends ≡ false
