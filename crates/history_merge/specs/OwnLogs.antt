-- An actor's own log, and what entering a message there says.
use Rattle.std.specs.Prelude.{◌≡◌, ℕ, false, List, [], ◌∷◌, ◌++◌, map}
use Rattle.letter_types.specs.declared.entries.Entry.{Entry}
use Rattle.letter_types.specs.declared.entries.Letter.{Letter}
use Rattle.letter_types.specs.declared.entries.Posting.{Posting}
use Rattle.letter_types.specs.Postal.{delivery_of}
use Rattle.letter_types.specs.Steps.{Out}
use Rattle.tx_trees.specs.declared.parts.Form.TheVariants.{One}
use Rattle.tx_trees.specs.ScriptData.{ScriptData}
use Rattle.stamp_post.specs.Shown.{OutboxData, PostId, outbox_data}
use Rattle.world_model.specs.Runs.{after}
use Rattle.world_model.specs.Tables.{ActorData, actor_row, start_actor}
use Rattle.history_merge.specs.Histories.{last_acts}

-- an actor's own log: its number, and its entries in order
pub record LogData : Type 0 where
  pub number : ℕ
  pub entries : List Entry

abbrev pub log_data : ℕ → List Entry → LogData
log_data number entries = record { number = number; entries = entries }

-- the state to which entries lead actor n
abbrev pub led_to : ScriptData → ℕ → List Entry → ActorData
led_to s n es = after (actor_row s n) (start_actor s n) es

-- what actor n's table says of a message there
abbrev pub row_there : ScriptData → ℕ → List Entry → Letter → Out ActorData
row_there s n es l = actor_row s n (led_to s n es) l

-- actor n took the message: it has one entry more, which is the last of those that were made, and the outbox is its own
pub record Handled (post : PostId) (n : ℕ) (old new : List Entry) (l : Letter) (made now : List Entry) (out : OutboxData) : Type 0 where
  pub entry : Entry
  pub entries : new ≡ old ++ entry ∷ []
  pub last : now ≡ made ++ entry ∷ []
  pub took : entry.took ≡ l
  pub outbox : out ≡ outbox_data post n (map delivery_of new) (delivery_of entry) 0

-- the actor of a log took the message
abbrev pub ActorTook : PostId → LogData → LogData → Letter → List Entry → List Entry → OutboxData → Type 0
ActorTook post old new l made now out = Handled post old.number old.entries new.entries l made now out

-- an addressee took the message: the last of the entries that were made is its own, and so is the outbox, which has
-- that entry's posting, the last of its postings so far; the acts are what its table says of it there
pub record Delivered (post : PostId) (s : ScriptData) (l : Letter) (made now : List Entry) (out : OutboxData) : Type 0 where
  pub entry : Entry
  pub last : now ≡ made ++ entry ∷ []
  pub took : entry.took ≡ l
  pub before : List Posting
  pub outbox : out ≡ outbox_data post l.to.0 (before ++ delivery_of entry ∷ []) (delivery_of entry) 0
  pub acts : entry.acts ≡ last_acts s l.to.0 (before ++ delivery_of entry ∷ [])

-- a name for no script
abbrev pub no_script : ScriptData
no_script = record { form = One; nodes = 0; items = []; trees = []; rows = []; picks = []; begun = false }
