-- What contracts see of a post, its seats, outboxes, envelopes and receipts, and what gathering promises.
use Rattle.std.specs.Prelude.{◌≡◌, ◌<◌, ℕ, zero, suc, ◌+◌, ◌-◌, All, List, [], ◌∷◌, Option, Some, None, IfSome, slice_get, ◌≤◌, ◌++◌, length}
use Rattle.atomic_table.specs.Seated.{TableId}
use Rattle.letter_types.specs.declared.entries.Letter.{Letter}
use Rattle.letter_types.specs.declared.entries.Outgoing.{Outgoing}
use Rattle.letter_types.specs.declared.entries.Posting.{Posting}
use Rattle.letter_types.specs.Postal.{IsMessageRun}
use Rattle.stamp_post.specs.declared.rule.JoinedSeat.{JoinedSeat}
use Rattle.stamp_post.specs.declared.rule.JoinedReceipt.{JoinedReceipt}
use Rattle.stamp_post.specs.Logs.{own_postings, Stands, AreFirst}

-- which post it is, and how many actors it has
pub record PostId : Type 0 where
  pub table : TableId
  pub actors : ℕ

-- an actor's seat: its post, its number, its postings, the message that it has taken and not stamped, and its last
-- posting while that one's outbox isn't made
pub record SeatData : Type 0 where
  pub post : PostId
  pub number : ℕ
  pub own : List Posting
  pub taken : Option Letter
  pub unsent : Option Posting

-- an outbox: its post, its actor, that actor's postings up to its own, its own, and how many of its messages are out
pub record OutboxData : Type 0 where
  pub post : PostId
  pub number : ℕ
  pub own : List Posting
  pub posting : Posting
  pub next : ℕ

-- a receipt or a witness: its post, its actor, that actor's postings up to its own, and its own
pub record ReceiptData : Type 0 where
  pub post : PostId
  pub number : ℕ
  pub own : List Posting
  pub posting : Posting

-- an envelope: its post and its message
pub record EnvelopeData : Type 0 where
  pub post : PostId
  pub letter : Letter

abbrev pub post_id : TableId → ℕ → PostId
post_id table actors = record { table = table; actors = actors }

abbrev pub seat_data : PostId → ℕ → List Posting → Option Letter → Option Posting → SeatData
seat_data post number own taken unsent =
    record { post = post; number = number; own = own; taken = taken; unsent = unsent }

-- the seat with a posting more, of the message that it had taken
abbrev pub with_posting : PostId → Posting → SeatData → SeatData
with_posting post p seat = seat_data post seat.number (seat.own ++ p ∷ []) None (Some p)

abbrev pub outbox_data : PostId → ℕ → List Posting → Posting → ℕ → OutboxData
outbox_data post number own p next = record { post = post; number = number; own = own; posting = p; next = next }

-- the outbox with one message more out; it has a message left; and all are out
abbrev pub one_more_out : OutboxData → OutboxData
one_more_out o = outbox_data o.post o.number o.own o.posting (o.next + 1)

abbrev pub HasLettersLeft : OutboxData → Type 0
HasLettersLeft o = o.next < length o.posting.sent

abbrev pub IsAllOut : OutboxData → Type 0
IsAllOut o = length o.posting.sent ≤ o.next

abbrev pub receipt_data : PostId → ℕ → List Posting → Posting → ReceiptData
receipt_data post number own p = record { post = post; number = number; own = own; posting = p }

-- what tells that an outbox's posting was stamped
abbrev pub receipt_of : OutboxData → ReceiptData
receipt_of o = receipt_data o.post o.number o.own o.posting

-- a gatherer: its post, and the postings that it knows of
pub record GathererData : Type 0 where
  pub post : PostId
  pub known : List JoinedReceipt

abbrev pub gatherer_data : PostId → List JoinedReceipt → GathererData
gatherer_data post known = record { post = post; known = known }

abbrev pub envelope_data : PostId → Letter → EnvelopeData
envelope_data post l = record { post = post; letter = l }

-- that many seats of actors with no posting, the numbers going on from n
abbrev pub new_seats : PostId → ℕ → ℕ → List SeatData
new_seats post n zero = []
new_seats post n (suc count) = seat_data post n [] None None ∷ new_seats post (n + 1) count

-- the messages go to actors of the post
abbrev pub AreToActors : ℕ → List Outgoing → Type 0
AreToActors actors sent = All (λ o. o.to.0 < actors) sent

-- the seat is of an actor of the post, the message that it has taken is addressed to it, and its unsent posting is its
-- own, with messages to actors of the post
abbrev pub IsSeat : ℕ → ℕ → Option Letter → Option Posting → Type 0
IsSeat actors number taken unsent =
    (number < actors)
    × IfSome taken (λ l. l.to.0 ≡ number)
    × IfSome unsent (λ p. (p.actor.0 ≡ number) × AreToActors actors p.sent)

-- what is gathered of a seat and of a receipt
abbrev pub joined_seat : ℕ → List Posting → JoinedSeat
joined_seat number own = record { number = number; own = own }

abbrev pub joined_receipt : ℕ → List Posting → Posting → JoinedReceipt
joined_receipt number own p = record { number = number; own = own; posting = p }

abbrev pub seat_joined : SeatData → JoinedSeat
seat_joined s = joined_seat s.number s.own

abbrev pub receipt_joined : ReceiptData → JoinedReceipt
receipt_joined r = joined_receipt r.number r.own r.posting

-- there is one log that went as messages do; each seat's postings are all that its actor has there; each receipt's
-- posting is there at its stamp, and the postings up to it are its actor's first ones
pub record Gathers (actors : ℕ) (seats : List JoinedSeat) (receipts : List JoinedReceipt) : Type 0 where
  pub log : List Posting
  pub postal : IsMessageRun (actors - 1) log
  pub own : (k : ℕ) (s : JoinedSeat) → slice_get seats k ≡ Some s → s.own ≡ own_postings s.number log
  pub stands : (k : ℕ) (r : JoinedReceipt) → slice_get receipts k ≡ Some r → Stands log r.posting
  pub begins : (k : ℕ) (r : JoinedReceipt) → slice_get receipts k ≡ Some r → AreFirst log r.number r.own

-- that many postings are gathered
abbrev pub AreGathered : ℕ → List JoinedSeat → List JoinedReceipt → ℕ → Type 0
AreGathered actors seats receipts count = (g : Gathers actors seats receipts) × (length g.log ≡ count)

-- a name for no post
abbrev pub no_post : PostId
no_post = post_id record { words = 0; slots = 0; views_name = 0; atom = 0; block = 0; offset = 0; slot_names = [] } 0
