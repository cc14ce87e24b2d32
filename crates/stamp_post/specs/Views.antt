-- The parts of a view, and the first seat, which private code works with.
use Rattle.std.specs.Prelude.{ℕ, List, [], Option, None, ◌++◌}
use Rattle.letter_types.specs.declared.entries.Letter.{Letter}
use Rattle.letter_types.specs.declared.entries.Posting.{Posting}
use Rattle.letter_types.specs.Letters.{go}
use Rattle.stamp_post.specs.declared.rule.JoinedSeat.{JoinedSeat}
use Rattle.stamp_post.specs.declared.rule.JoinedReceipt.{JoinedReceipt}
use Rattle.stamp_post.specs.declared.rule.View.{View}
use Rattle.stamp_post.specs.declared.rule.View.TheVariants.{Gathering, Acting, Sending}
use Rattle.stamp_post.specs.Shown.{PostId}

-- the first seat: its post, how many actors were made, Go while it is here, and what was joined
pub record FirstData : Type 0 where
  pub post : PostId
  pub made : ℕ
  pub here : Option Letter
  pub seats : List JoinedSeat
  pub receipts : List JoinedReceipt

abbrev pub first_data : PostId → ℕ → Option Letter → List JoinedSeat → List JoinedReceipt → FirstData
first_data post made here seats receipts =
    record { post = post; made = made; here = here; seats = seats; receipts = receipts }

-- the first seat of a post with that many actors made; with seats joined; and with receipts joined
abbrev pub with_made : PostId → ℕ → FirstData → FirstData
with_made post made first = first_data post made first.here first.seats first.receipts

abbrev pub with_seats : PostId → List JoinedSeat → FirstData → FirstData
with_seats post more first = first_data post first.made first.here (first.seats ++ more) first.receipts

abbrev pub with_receipts : PostId → List JoinedReceipt → FirstData → FirstData
with_receipts post more first = first_data post first.made first.here first.seats (first.receipts ++ more)

abbrev pub here_in : View → Option Letter
here_in (Gathering m first seats receipts) = first
here_in _ = None

abbrev pub seats_in : View → List JoinedSeat
seats_in (Gathering m first seats receipts) = seats
seats_in _ = []

abbrev pub receipts_in : View → List JoinedReceipt
receipts_in (Gathering m first seats receipts) = receipts
receipts_in _ = []

abbrev pub own_in : View → List Posting
own_in (Acting n own taken unsent) = own
own_in (Sending n own p next) = own
own_in _ = []

abbrev pub taken_in : View → Option Letter
taken_in (Acting n own taken unsent) = taken
taken_in _ = None

abbrev pub unsent_in : View → Option Posting
unsent_in (Acting n own taken unsent) = unsent
unsent_in _ = None

-- no posting, if a view has none
abbrev pub no_posting : Posting
no_posting = record { stamp = record { 0 = 0 }; actor = record { 0 = 0 }; took = go 0; sent = [] }

abbrev pub posting_in : View → Posting
posting_in (Sending n own p next) = p
posting_in _ = no_posting
