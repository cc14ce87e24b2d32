-- An actor's cell.
use Rattle.std.specs.Prelude.{◌≡◌, ℕ, List, length, sum_by, MatchResult, Result}
use Rattle.letter_types.specs.declared.entries.Entry.{Entry}
use Rattle.tx_trees.specs.ScriptData.{ScriptData}
use Rattle.world_core.specs.declared.actor.ActorState.{ActorState}
use Rattle.world_core.specs.Actors.{IsFor, actor_data}
use Rattle.history_merge.specs.Merging.{NumberedBy}
use Rattle.history_merge.specs.OwnLogs.{led_to, Delivered, Handled}
use Rattle.tv_base.specs.declared.numbers.NoMemory.{NoMemory}
use Rattle.stamp_post.specs.Shown.{EnvelopeData, OutboxData, PostId}

-- an actor: its number, and its own entries in order
pub record CellData : Type 0 where
  pub number : ℕ
  pub entries : List Entry

abbrev pub cell_data : ℕ → List Entry → CellData
cell_data number entries = record { number = number; entries = entries }

-- actor a's entries lead by its table from its start to this state
pub record LeadsTo (s : ScriptData) (a : ℕ) (es : List Entry) (st : ActorState) : Type 0 where
  pub state : actor_data st ≡ led_to s a es
  pub script : IsFor s st

-- how many entries cells have together
abbrev pub entries_in : List CellData → ℕ
entries_in cells = sum_by (λ c. length c.entries) cells

-- cells lie in the order of their numbers, from 0, and that many entries are all that they have
pub record HasAllEntries (cells : List CellData) (count : ℕ) : Type 0 where
  pub order : NumberedBy (λ c. c.number) 0 cells
  pub whole : count ≡ entries_in cells

-- what handling a message gave: the outbox of the entry that comes of it; or the message comes back, and all is as it
-- was
abbrev pub IsHandling : PostId → EnvelopeData → CellData → CellData → List Entry → List Entry
    → Result OutboxData (NoMemory × EnvelopeData) → Type 0
IsHandling post envelope old new made now result = MatchResult result
    (λ out. Handled post old.number old.entries new.entries envelope.letter made now out)
    (λ e. (e.1 ≡ envelope) × (new ≡ old) × (now ≡ made))

-- what delivering a message gave: its addressee's outbox; or the message comes back, and what was made is as it was
abbrev pub IsDelivery : PostId → ScriptData → EnvelopeData → List Entry → List Entry
    → Result OutboxData (NoMemory × EnvelopeData) → Type 0
IsDelivery post s envelope made now result = MatchResult result
    (λ out. Delivered post s envelope.letter made now out) (λ e. (e.1 ≡ envelope) × (now ≡ made))
