-- Postings in order of stamp, and what was sent by them.
use Rattle.std.specs.Prelude.{◌≡◌, ◌==◌, ◌+◌, ◌++◌, ◌⊎◌, ℕ, List, filter, slice_get, Some}
use Rattle.tv_base.specs.declared.numbers.TheConstants.{MOST_ENTRIES}
use Rattle.letter_types.specs.declared.entries.Letter.{Letter}
use Rattle.letter_types.specs.declared.entries.Outgoing.{Outgoing}
use Rattle.letter_types.specs.declared.entries.Posting.{Posting}
use Rattle.letter_types.specs.Letters.{go, find_id}
use Rattle.letter_types.specs.Postal.{letters_sent}

-- the most postings of one actor
abbrev pub most : ℕ
most = MOST_ENTRIES

-- the postings of one actor, in order
abbrev pub own_postings : ℕ → List Posting → List Posting
own_postings a log = filter (λ p. p.actor.0 == a) log

-- the posting of an actor that took a message and sent these
abbrev pub posting : ℕ → ℕ → Letter → List Outgoing → Posting
posting stamp actor took sent =
    record { stamp = record { 0 = stamp }; actor = record { 0 = actor }; took = took; sent = sent }

-- the posting is in the log, at its stamp
abbrev pub Stands : List Posting → Posting → Type 0
Stands log p = (k : ℕ) × (slice_get log k ≡ Some p) × (p.stamp.0 ≡ k + 1)

-- the postings are the first ones of an actor
abbrev pub AreFirst : List Posting → ℕ → List Posting → Type 0
AreFirst log a own = (rest : List Posting) × (own_postings a log ≡ own ++ rest)

-- the message is Go, or a posting of the log sent it under its id
abbrev pub WasSent : ℕ → List Posting → Letter → Type 0
WasSent client log l = (l ≡ go client) ⊎ ((p : Posting) × Stands log p × (find_id l.id (letters_sent p) ≡ Some l))
