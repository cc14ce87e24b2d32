-- What comes of a worker's bench, and what a worker holds that stops.
use Rattle.std.specs.Prelude.{◌≡◌, ◌++◌, ◌⊎◌, ℕ, Bool, false, List, [], drop, Option, Some, None}
use Rattle.std.specs.List.{last_or, list_any}
use Rattle.letter_types.specs.declared.entries.Entry.{Entry}
use Rattle.letter_types.specs.declared.entries.Letter.{Letter}
use Rattle.tx_trees.specs.ScriptData.{ScriptData}
use Rattle.stamp_post.specs.Shown.{EnvelopeData, OutboxData, PostId}
use Rattle.board_rules.specs.Right.{finishes}
use Rattle.actor_schedule.specs.declared.stop.InHand.{InHand}
use Rattle.actor_schedule.specs.declared.stop.InHand.TheVariants.{Nothing}
use Rattle.actor_schedule.specs.Desks.{DeskData, all_sorted_in, desk_data, empty_trays, left_in}
use Rattle.actor_schedule.specs.Stops.{KeepsLetter}
use Rattle.history_merge.specs.OwnLogs.{Delivered}

-- the client has finished with an entry, if there is one
abbrev pub ends_with : Option Entry → Bool
ends_with None = false
ends_with (Some e) = list_any finishes e.acts

-- the client has finished with the last of these entries
abbrev pub ends_last : List Entry → Bool
ends_last es = ends_with (last_or None es)

-- a message was delivered: its addressee's entry is the last of those that were made, what that sent lies in the trays,
-- and this tells whether the client has finished with it
pub record IsDelivered (post : PostId) (s : ScriptData) (l : Letter) (made now : List Entry) (old new : DeskData) (ends : Bool) : Type 0 where
  pub out : OutboxData
  pub taken : Delivered post s l made now out
  pub sorted : new ≡ desk_data old.hand (all_sorted_in post (left_in out) old.trays)
  pub told : ends ≡ ends_last now

-- the trays are empty up to a place, and from there on as they were
abbrev pub AreFlushed : List (List EnvelopeData) → List (List EnvelopeData) → Type 0
AreFlushed old new = (put : ℕ) × (new ≡ empty_trays put ++ drop put old)

-- that many trays are empty, or they are so up to a place; and they are empty, if they were
abbrev pub AreEmptiedTo : ℕ → List (List EnvelopeData) → List (List EnvelopeData) → Type 0
AreEmptiedTo count old new = (new ≡ empty_trays count) ⊎ AreFlushed old new

abbrev pub StayEmpty : ℕ → List (List EnvelopeData) → List (List EnvelopeData) → Type 0
StayEmpty count old new = old ≡ empty_trays count → new ≡ empty_trays count

-- entries are left, or none is
abbrev pub AreAllOrNone : List Entry → List Entry → Type 0
AreAllOrNone old new = (new ≡ old) ⊎ (new ≡ [])

-- nothing is held, or a message of the post that wasn't delivered, or what no tray took of what came of one
abbrev pub KeepsOne : PostId → InHand → Type 0
KeepsOne post held = (held ≡ Nothing) ⊎ ((e : EnvelopeData) × (e.post ≡ post) × KeepsLetter post e held)
