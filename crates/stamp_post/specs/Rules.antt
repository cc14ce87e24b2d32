-- The rule between any two steps: there is one log of postings, and each message is in one place.
use Rattle.std.specs.Prelude.{◌≡◌, ◌≢◌, ℕ, suc, ◌-◌, ◌<◌, ◌≤◌, List, [], length, slice_index, slice_get, Option, Some, None}
use mathlib.Core.Option.{some}
use lib.ListN.{get_elem?}
use Rattle.atomic_table.specs.Table.{State}
use Rattle.letter_types.specs.declared.entries.Letter.{Letter}
use Rattle.letter_types.specs.declared.entries.Outgoing.{Outgoing}
use Rattle.letter_types.specs.declared.entries.Posting.{Posting}
use Rattle.letter_types.specs.Letters.{go}
use Rattle.letter_types.specs.Postal.{IsMessageRun}
use Rattle.stamp_post.specs.declared.rule.JoinedSeat.{JoinedSeat}
use Rattle.stamp_post.specs.declared.rule.JoinedReceipt.{JoinedReceipt}
use Rattle.stamp_post.specs.declared.rule.View.{View}
use Rattle.stamp_post.specs.declared.rule.View.TheVariants.{Gathering, Acting, Sending, Carrying, Spent}
use Rattle.stamp_post.specs.Logs.{most, own_postings, Stands, AreFirst, WasSent}

-- `owner` says which seat has an actor, `made` how many actors there are, and `holder` which seat has a message: the
-- seat's number and one, or 0 if the message was taken
module _ (client : ℕ) (log : List Posting) (owner : ℕ → ℕ) (made : ℕ) (holder : ℕ → ℕ → ℕ) (id : ℕ) where
  -- this seat has the message
  abbrev pub Holds : Letter → Type 0
  Holds l = WasSent client log l × (holder l.id.stamp.0 l.id.place ≡ suc id)

  -- this seat has the posting's messages from that place on
  abbrev pub HoldsRest : Posting → ℕ → Type 0
  HoldsRest p next = (k : ℕ) (o : Outgoing) → next ≤ k → slice_get p.sent k ≡ Some o → holder p.stamp.0 k ≡ suc id

  abbrev pub HoldsGo : Option Letter → Type 0
  HoldsGo None = Unit {0}
  HoldsGo (Some l) = Holds l

  -- the message that the actor has taken and not stamped
  abbrev pub HoldsTaken : ℕ → Option Letter → Type 0
  HoldsTaken n None = Unit {0}
  HoldsTaken n (Some l) = Holds l × (l.to.0 ≡ n)

  -- the actor's last posting, while its outbox isn't made
  abbrev pub HoldsUnsent : ℕ → Option Posting → Type 0
  HoldsUnsent n None = Unit {0}
  HoldsUnsent n (Some p) = Stands log p × (p.actor.0 ≡ n) × HoldsRest p 0

  -- what one seat knows of the log, what it alone has of the actors, and what it alone has of the messages; an actor's
  -- message that isn't stamped is none of its unsent posting
  abbrev pub Fits : View → Type 0
  Fits (Gathering m first seats receipts) =
      (id ≡ 0) × (m ≡ made)
      × ((k : ℕ) (s : JoinedSeat) → slice_get seats k ≡ Some s
      → (owner s.number ≡ id) × (s.number < made) × (s.own ≡ own_postings s.number log))
      × HoldsGo first
      × ((k : ℕ) (r : JoinedReceipt) → slice_get receipts k ≡ Some r → AreFirst log r.number r.own × Stands log r.posting)
  Fits (Acting n own taken unsent) =
      (n < made) × (owner n ≡ id) × (own ≡ own_postings n log) × HoldsTaken n taken × HoldsUnsent n unsent
      × ((l : Letter) (p : Posting) → taken ≡ Some l → unsent ≡ Some p → l.id.stamp.0 ≢ p.stamp.0)
  Fits (Sending n own p next) = AreFirst log n own × Stands log p × (p.actor.0 ≡ n) × HoldsRest p next
  Fits (Carrying l) = Holds l
  Fits Spent = Unit {0}

-- there is one log, which went as messages do, and the second word is its length
pub record KeepsLog (actors : ℕ) (words : List ℕ) (views : List View) : Type 0 where
  pub log : List Posting
  pub owner : ℕ → ℕ
  pub made : ℕ
  pub holder : ℕ → ℕ → ℕ
  pub two : length words ≡ 2
  pub clock : slice_index words 1 ≡ length log
  pub postal : IsMessageRun (actors - 1) log
  pub few : (made ≤ actors) × (actors < 256)
  pub by_made : (k : ℕ) (p : Posting) → slice_get log k ≡ Some p → p.actor.0 < made
  pub each : (a : ℕ) → length (own_postings a log) ≤ most
  pub gone : (k : ℕ) (p : Posting) → slice_get log k ≡ Some p → holder p.took.id.stamp.0 p.took.id.place ≡ 0
  pub fits : (id : ℕ) (v : View) → get_elem? views id ≡ some v → Fits (actors - 1) log owner made holder id v

abbrev pub Ruled : ℕ → State (Unit {0}) View → Type 0
Ruled actors s = KeepsLog actors s.words s.views

-- no actor was made, and Go is here
abbrev pub first_view : ℕ → View
first_view actors = Gathering 0 (Some (go (actors - 1))) [] []
