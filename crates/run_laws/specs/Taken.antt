-- Which messages actors took.
use Rattle.std.specs.Prelude.{ℕ, ◌≡◌, List, take, Some, IsTrue, slice_get}
use Rattle.letter_types.specs.Kept.{brought}
use Rattle.letter_types.specs.declared.entries.Entry.{Entry}
use Rattle.letter_types.specs.declared.entries.Letter.{Letter}
use Rattle.tx_trees.specs.ScriptData.{ScriptData}
use Rattle.world_model.specs.Keeping.{is_apt_brought}
use Rattle.world_model.specs.Runs.{actor_after}
use Rattle.world_model.specs.Tables.{ActorData, NodeData, CoordinatorData, RestartingData, ClientData}

-- if actor a is a node, the message that this one brings there is enabled in this state; the coordinator and the client
-- take any message
abbrev pub IsAptFor : ScriptData → ℕ → ActorData → Letter → Type 0
IsAptFor s a (NodeData n) l = IsTrue (is_apt_brought s a n (brought n.kept l l.body))
IsAptFor s a (CoordinatorData c) l = Unit {0}
IsAptFor s a (RestartingData c) l = Unit {0}
IsAptFor s a (ClientData c) l = Unit {0}

-- each message that a node took brought one that was enabled there, in the state to which the node's entries before had
-- led
abbrev pub TakesWhatIsApt : ScriptData → List Entry → Type 0
TakesWhatIsApt s h = (n : ℕ) (e : Entry) → slice_get h n ≡ Some e
    → IsAptFor s e.actor.0 (actor_after s (take n h) e.actor.0) e.took
