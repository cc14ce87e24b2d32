-- What actors do by their postings; one history of all actors' entries, and what it says of a receipt.
use Rattle.std.specs.Prelude.{◌≡◌, ◌+◌, ◌<◌, ℕ, List, [], ◌∷◌, ◌++◌, length, slice_get, sum_by, Some}
use Rattle.letter_types.specs.declared.acts.Act.{Act}
use Rattle.letter_types.specs.declared.entries.Entry.{Entry}
use Rattle.letter_types.specs.declared.entries.Letter.{Letter}
use Rattle.letter_types.specs.declared.entries.Posting.{Posting}
use Rattle.letter_types.specs.Postal.{delivery_of}
use Rattle.letter_types.specs.Steps.{Out}
use Rattle.tx_trees.specs.ScriptData.{ScriptData}
use Rattle.stamp_post.specs.Shown.{ReceiptData}
use Rattle.world_model.specs.Tables.{actor_row, start_actor}

-- the acts of the last of these postings, if a table runs over their messages; without postings, these acts
abbrev pub last_acts_from : {St : Type 0} → (St → Letter → Out St) → St → List Act → List Posting → List Act
last_acts_from row st acts [] = acts
last_acts_from row st acts (p ∷ ps) = last_acts_from row (row st p.took).state (row st p.took).acts ps

-- what actor a did with the last of its first postings, by its table
abbrev pub last_acts : ScriptData → ℕ → List Posting → List Act
last_acts s a own = last_acts_from (actor_row s a) (start_actor s a) [] own

-- the entries of these postings, if a table runs over their messages: what each sends is the posting's, and what is
-- done the table's
abbrev pub entries_from : {St : Type 0} → (St → Letter → Out St) → St → List Posting → List Entry
entries_from row st [] = []
entries_from row st (p ∷ ps) =
    record { stamp = p.stamp; actor = p.actor; took = p.took; sent = p.sent; acts = (row st p.took).acts }
    ∷ entries_from row (row st p.took).state ps

-- the entries of actor a's first postings, by its table
abbrev pub entries_by : ScriptData → ℕ → List Posting → List Entry
entries_by s a own = entries_from (actor_row s a) (start_actor s a) own

-- just one entry of the history has the receipt's stamp. It took the message of that delivery, sent its messages and
-- did its acts, which are those of the last of the actor's postings up to it; and the message has a smaller stamp
pub record HasReceiptEntry (s : ScriptData) (h : List Entry) (r : ReceiptData) : Type 0 where
  pub place : ℕ
  pub entry : Entry
  pub at : slice_get h place ≡ Some entry
  pub stamp : r.posting.stamp.0 ≡ place + 1
  pub once : (j : ℕ) (e : Entry) → slice_get h j ≡ Some e → e.stamp.0 ≡ place + 1 → j ≡ place
  pub posting : delivery_of entry ≡ r.posting
  pub acts : (before : List Posting) → r.own ≡ before ++ r.posting ∷ [] → entry.acts ≡ last_acts s r.number r.own
  pub later : r.posting.took.id.stamp.0 < r.posting.stamp.0

-- so of each of these receipts
abbrev pub HasReceiptEntries : ScriptData → List ReceiptData → List Entry → Type 0
HasReceiptEntries s receipts h = (k : ℕ) (r : ReceiptData) → slice_get receipts k ≡ Some r → HasReceiptEntry s h r

-- every message was taken: there are as many entries as messages, which are Go and those that entries sent
abbrev pub HasTakenAll : List Entry → Type 0
HasTakenAll h = length h ≡ sum_by (λ e. length e.sent) h + 1
