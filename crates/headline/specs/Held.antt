-- Which versions of an item its node holds.
use Rattle.std.specs.Prelude.{if◌then◌else◌, ℕ, ◌≡◌, ◌≤◌, ◌+◌, List, [], ◌∷◌, length, take, Some, None, slice_get}
use Rattle.std.specs.List.{AllByRecursion}
use Rattle.item_versions.specs.Item.{Held, IsHeld}
use Rattle.item_versions.specs.Table.{Table, item_in}
use Rattle.item_versions.specs.Window.{first_version}
use Rattle.letter_types.specs.declared.entries.Entry.{Entry}
use Rattle.node_versions.specs.Turns.{turns_start as first_turns}
use Rattle.node_versions.specs.declared.turns.Turns.{Turns}
use Rattle.tx_trees.specs.Counts.{advances_in}
use Rattle.tx_trees.specs.ScriptData.{ScriptData}
use Rattle.tx_trees.specs.declared.parts.ItemRow.{ItemRow}
use Rattle.board_rules.specs.Worth.{is_written, worth}
use Rattle.world_model.specs.Runs.{actor_after}
use Rattle.world_model.specs.Tables.{ActorData, NodeData, CoordinatorData, RestartingData, ClientData}

-- a node's items and its three numbers; another actor has none
abbrev pub items_of : ActorData → Table
items_of (NodeData n) = n.core.node.items
items_of (CoordinatorData c) = []
items_of (RestartingData c) = []
items_of (ClientData c) = []

abbrev pub turns_of : ActorData → Turns
turns_of (NodeData n) = n.core.node.turns
turns_of (CoordinatorData c) = first_turns
turns_of (RestartingData c) = first_turns
turns_of (ClientData c) = first_turns

-- the versions of item x, each with its value, that node p holds after a history
abbrev pub held_after : ScriptData → List Entry → ℕ → ℕ → Held
held_after s h p x =
    elim (item_in (record { 0 = x }) (items_of (actor_after s h p))) [ Some held ↦ held | None ↦ [] ]

-- they are one to three and ascend, from the node's low version to at most its update version, which is at most two
-- above
pub record HoldsThree (held : Held) (turns : Turns) : Type 0 where
  pub few : length held ≤ 3
  pub ascending : IsHeld held
  pub least : first_version held ≡ turns.low.0
  pub most : AllByRecursion (λ x. x.0.0 ≤ turns.update.0) held
  pub update : turns.update.0 ≤ turns.low.0 + 2

-- no item has held more than three versions: each after each part of the history
abbrev pub HasHeldThree : ScriptData → List Entry → Type 0
HasHeldThree s h = (n x : ℕ) (r : ItemRow) → slice_get s.items x ≡ Some r
    → HoldsThree (held_after s (take n h) r.node.0 x) (turns_of (actor_after s (take n h) r.node.0))

-- item x at the end: its worth in the last version that was shown, and in the next one if that is written
abbrev pub worth_at_end : ScriptData → List Entry → ℕ → ℕ → Held
worth_at_end s h x a =
    (record { 0 = a }, worth s h x a)
    ∷ (if is_written s h x (a + 1) then (record { 0 = a + 1 }, worth s h x (a + 1)) ∷ [] else [])

-- what the nodes hold after a history are the balances of its report
abbrev pub HoldsBalances : ScriptData → List Entry → Type 0
HoldsBalances s h = (x : ℕ) (r : ItemRow) → slice_get s.items x ≡ Some r
    → held_after s h r.node.0 x ≡ worth_at_end s h x (advances_in s.rows)
