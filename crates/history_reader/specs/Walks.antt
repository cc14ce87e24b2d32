-- What a walk over the text of a history has, and what a text is read as.
use Rattle.std.specs.Prelude.{if◌then◌else◌, ℕ, ◌+◌, ◌≡◌, ◌≢◌, ◌⊎◌, Bool, false, ◌||◌, List, [], ◌∷◌, ◌++◌, length, map, Result, Ok, Err}
use Rattle.std.specs.List.{AllByRecursion}
use Rattle.letter_types.specs.declared.bodies.Body.TheVariants.{Go}
use Rattle.letter_types.specs.declared.entries.Entry.{Entry}
use Rattle.letter_types.specs.declared.entries.LetterId.{LetterId}
use Rattle.letter_types.specs.declared.entries.Outgoing.{Outgoing}
use Rattle.letter_types.specs.Letters.{same_id}
use Rattle.letter_types.specs.Postal.{IsMessageRun, delivery_of}
use Rattle.tx_trees.specs.ScriptData.{ScriptData, client_of}
use Rattle.history_text.specs.History.{history_lines_of}
use Rattle.history_text.specs.Printable.{Begins, EndsEntry, IsPrintable, BeginsWithNone}
use Rattle.history_reader.specs.declared.in_flight.Sender.{Sender}
use Rattle.history_reader.specs.declared.reading.HistoryRefusal.{HistoryRefusal}
use Rattle.history_reader.specs.declared.reading.HistoryRefusal.TheVariants as refusals

-- letters went as letters do
abbrev pub IsPostal : ScriptData → List Entry → Type 0
IsPostal s h = IsMessageRun (client_of s) (map delivery_of h)

-- the text begins with the lines of these entries, each of which may be printed, and this is the rest
pub record BeginsWith (s : ScriptData) (text : List ℕ) (h : List Entry) (rest : List ℕ) : Type 0 where
  pub lines : text ≡ history_lines_of s h ++ rest
  pub may : AllByRecursion (IsPrintable s) h
  pub ends : (h ≡ []) ⊎ EndsEntry rest

-- the text begins with these entries, and letters went in them as letters do
pub record IsRead (s : ScriptData) (text : List ℕ) (h : List Entry) (rest : List ℕ) : Type 0 where
  pub begins : BeginsWith s text h rest
  pub postal : IsPostal s h

-- something is left of the text, and no entry may be read there
pub record IsUnread (s : ScriptData) (rest : List ℕ) : Type 0 where
  pub more : rest ≢ []
  pub none : BeginsWithNone s rest

-- behind these entries an entry may be read, but none that may be read there goes on as letters do
pub record IsUnposted (s : ScriptData) (h : List Entry) (rest : List ℕ) : Type 0 where
  pub entry : Entry
  pub behind : List ℕ
  pub begins : Begins s rest entry behind
  pub none : (f : Entry) (q : List ℕ) → Begins s rest f q → IsPostal s (h ++ f ∷ []) → ⊥

-- the id of the letter that was sent at this stamp and place
abbrev pub id_at : ℕ → ℕ → LetterId
id_at stamp place = record { stamp = record { 0 = stamp }; place = place }

-- whether one of these entries took the letter of this id
abbrev pub was_taken : LetterId → List Entry → Bool
was_taken id [] = false
was_taken id (e ∷ h) = same_id e.took.id id || was_taken id h

-- what is left of a letter that was sent at this stamp and place: Go stands for what it said once it was taken
abbrev pub letter_left : List Entry → ℕ → ℕ → Outgoing → Outgoing
letter_left h stamp place o = record { to = o.to; body = (if was_taken (id_at stamp place) h then Go else o.body) }

-- and of those that were sent at this stamp, from a place on
abbrev pub left_at : List Entry → ℕ → ℕ → List Outgoing → List Outgoing
left_at h stamp place [] = []
left_at h stamp place (o ∷ os) = letter_left h stamp place o ∷ left_at h stamp (place + 1) os

-- who sent, and what is left of it, by entries from a stamp on
abbrev pub senders_from : List Entry → ℕ → List Entry → List Sender
senders_from h stamp [] = []
senders_from h stamp (e ∷ es) = record { from = e.actor; sent = left_at h stamp 0 e.sent } ∷ senders_from h (stamp + 1) es

-- letters in flight: whether Go was taken, and what is left of the letters of each entry
pub record LettersLeft : Type 0 where
  pub begun : Bool
  pub senders : List Sender

-- those of a history
abbrev pub letters_left : List Entry → LettersLeft
letters_left h = record { begun = was_taken (id_at 0 0) h; senders = senders_from h 1 h }

-- what a walk has: the text that is left, how many entries it has come behind, and the letters in flight there
pub record WalkData : Type 0 where
  pub script : ScriptData
  pub rest : List ℕ
  pub count : ℕ
  pub letters : LettersLeft

-- the walk of a text has come behind these entries
pub record IsWalked (s : ScriptData) (text : List ℕ) (h : List Entry) (w : WalkData) : Type 0 where
  pub read : IsRead s text h w.rest
  pub count : w.count ≡ length h
  pub letters : w.letters ≡ letters_left h

-- a walk comes behind this entry
pub record ComesBehind (old : WalkData) (e : Entry) (new : WalkData) : Type 0 where
  pub begins : Begins old.script old.rest e new.rest
  pub walked : (text : List ℕ) (h : List Entry) → IsWalked old.script text h old → IsWalked old.script text (h ++ e ∷ []) new

-- where a walk is, an entry may be read, but none goes on as letters do, whatever entries it has come behind
abbrev pub IsUnpostedAt : WalkData → Type 0
IsUnpostedAt w = (text : List ℕ) (h : List Entry) → IsWalked w.script text h w → IsUnposted w.script h w.rest

-- what a text is read as: a history; or the number of the first entry that fails, counted from 1. It fails in its text
-- where no entry may be read there, and in its letters where nothing that may be read there went as letters do.
pub data Reading (s : ScriptData) (text : List ℕ) : Result (List Entry) HistoryRefusal → Type 0 where
  Whole : (h : List Entry) → IsRead s text h [] → Reading s text (Ok h)
  Unread : (h : List Entry) (rest : List ℕ) → IsRead s text h rest → IsUnread s rest
      → Reading s text (Err (refusals.Text (length h + 1)))
  Unposted : (h : List Entry) (rest : List ℕ) → IsRead s text h rest → IsUnposted s h rest
      → Reading s text (Err (refusals.Postal (length h + 1)))

-- what is read is the reading of the text, unless memory ran out
abbrev pub IsReadOutcome : ScriptData → List ℕ → Result (List Entry) HistoryRefusal → Type 0
IsReadOutcome s text (Err refusals.NoMemory) = Unit {0}
IsReadOutcome s text outcome = Reading s text outcome

-- the text has one reading
abbrev pub HasOneReading : ScriptData → List ℕ → Type 0
HasOneReading s text = (a b : Result (List Entry) HistoryRefusal) → Reading s text a → Reading s text b → a ≡ b
