-- The messages of a history went as messages do. Acts are no matter here, so this speaks of postings.
use Rattle.std.specs.Prelude.{ℕ, ◌+◌, ◌<◌, ◌≡◌, ◌≢◌, ◌⊎◌, List, Some, slice_get}
use Rattle.letter_types.specs.declared.entries.Letter.{Letter}
use Rattle.letter_types.specs.declared.entries.Entry.{Entry}
use Rattle.letter_types.specs.declared.entries.Posting.{Posting}
use Rattle.letter_types.specs.Letters.{go, sealed, find_id}

-- an entry without its acts
abbrev pub delivery_of : Entry → Posting
delivery_of e = record { stamp = e.stamp; actor = e.actor; took = e.took; sent = e.sent }

-- the messages that a posting sent
abbrev pub letters_sent : Posting → List Letter
letters_sent p = sealed p.stamp.0 p.actor.0 0 p.sent

-- stamps count from 1; each message that was taken is Go or was sent by an earlier posting under its id; none is taken
-- twice; each is taken by its addressee, which is one of the actors up to the client
pub record IsMessageRun (client : ℕ) (h : List Posting) : Type 0 where
  pub stamps : (k : ℕ) (e : Posting) → slice_get h k ≡ Some e → e.stamp.0 ≡ k + 1
  pub sent : (k : ℕ) (e : Posting) → slice_get h k ≡ Some e
      → (e.took ≡ go client)
      ⊎ ((j : ℕ) × (f : Posting) × (j < k) × (slice_get h j ≡ Some f)
      × (find_id e.took.id (letters_sent f) ≡ Some e.took))
  pub once : (j k : ℕ) (e f : Posting) → j < k → slice_get h j ≡ Some e → slice_get h k ≡ Some f → e.took.id ≢ f.took.id
  pub addressee : (k : ℕ) (e : Posting) → slice_get h k ≡ Some e → e.took.to.0 ≡ e.actor.0
  pub known : (k : ℕ) (e : Posting) → slice_get h k ≡ Some e → e.actor.0 < client + 1
