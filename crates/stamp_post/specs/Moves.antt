-- What each step makes of the views. A step is never made with a view of another kind.
use Rattle.std.specs.Prelude.{◌≡◌, ℕ, ◌+◌, ◌<◌, List, [], ◌∷◌, ◌++◌, Option, Some, None, length, slice_get}
use Rattle.atomic_table.specs.Table.{Me, Step}
use Rattle.letter_types.specs.declared.entries.Letter.{Letter}
use Rattle.letter_types.specs.declared.entries.Outgoing.{Outgoing}
use Rattle.letter_types.specs.declared.entries.Posting.{Posting}
use Rattle.letter_types.specs.Postal.{letters_sent}
use Rattle.stamp_post.specs.declared.rule.JoinedSeat.{JoinedSeat}
use Rattle.stamp_post.specs.declared.rule.JoinedReceipt.{JoinedReceipt}
use Rattle.stamp_post.specs.declared.rule.View.{View}
use Rattle.stamp_post.specs.declared.rule.View.TheVariants.{Gathering, Acting, Sending, Carrying, Spent}
use Rattle.stamp_post.specs.Logs.{posting}
use Rattle.stamp_post.specs.Shown.{joined_seat, joined_receipt}

abbrev pub with_actor : View → View
with_actor (Gathering m first seats receipts) = Gathering (m + 1) first seats receipts
with_actor _ = Spent

abbrev pub new_actor : View → View
new_actor (Gathering m first seats receipts) = Acting m [] None None
new_actor _ = Spent

abbrev pub carrying : Option Letter → View
carrying (Some l) = Carrying l
carrying None = Spent

abbrev pub without_go : View → View
without_go (Gathering m first seats receipts) = Gathering m None seats receipts
without_go _ = Spent

abbrev pub go_off : View → View
go_off (Gathering m first seats receipts) = carrying first
go_off _ = Spent

abbrev pub sending : ℕ → List Posting → Option Posting → View
sending n own (Some p) = Sending n own p 0
sending n own None = Spent

abbrev pub without_outbox : View → View
without_outbox (Acting n own taken unsent) = Acting n own taken None
without_outbox _ = Spent

abbrev pub outbox_off : View → View
outbox_off (Acting n own taken unsent) = sending n own unsent
outbox_off _ = Spent

abbrev pub without_letter : View → View
without_letter (Sending n own p next) = Sending n own p (next + 1)
without_letter _ = Spent

abbrev pub letter_off : View → View
letter_off (Sending n own p next) = carrying (slice_get (letters_sent p) next)
letter_off _ = Spent

-- a witness has no message to send
abbrev pub witness_off : View → View
witness_off (Sending n own p next) = Sending n own p (length p.sent)
witness_off _ = Spent

abbrev pub takes : ℕ → List Posting → Option Posting → View → View
takes n own unsent (Carrying l) = Acting n own (Some l) unsent
takes n own unsent _ = Spent

abbrev pub with_letter : View → View → View
with_letter (Acting n own taken unsent) w = takes n own unsent w
with_letter _ w = Spent

abbrev pub adds_seat : ℕ → Option Letter → List JoinedSeat → List JoinedReceipt → View → View
adds_seat m first seats receipts (Acting n own taken unsent) =
    Gathering m first (seats ++ joined_seat n own ∷ []) receipts
adds_seat m first seats receipts _ = Spent

abbrev pub with_seat : View → View → View
with_seat (Gathering m first seats receipts) w = adds_seat m first seats receipts w
with_seat _ w = Spent

abbrev pub adds_receipt : ℕ → Option Letter → List JoinedSeat → List JoinedReceipt → View → View
adds_receipt m first seats receipts (Sending n own p next) =
    Gathering m first seats (receipts ++ joined_receipt n own p ∷ [])
adds_receipt m first seats receipts _ = Spent

abbrev pub with_receipt : View → View → View
with_receipt (Gathering m first seats receipts) w = adds_receipt m first seats receipts w
with_receipt _ w = Spent

abbrev pub posts : ℕ → List Posting → List Outgoing → ℕ → Option Letter → View
posts n own sent stamp (Some l) = Acting n (own ++ posting stamp n l sent ∷ []) None (Some (posting stamp n l sent))
posts n own sent stamp None = Spent

abbrev pub after_stamp : List Outgoing → ℕ → View → View
after_stamp sent stamp (Acting n own taken unsent) = posts n own sent stamp taken
after_stamp sent stamp _ = Spent

-- the clock was n, and now shows the next number, which is the stamp
abbrev pub Stamped : List Outgoing → Step (Unit {0}) → Me (Unit {0}) View → ℕ → Me (Unit {0}) View → Type 0
Stamped sent st m n m' = (n + 1 < 18446744073709551616) × (m' ≡ (after_stamp sent (n + 1) m.0, m.1))
