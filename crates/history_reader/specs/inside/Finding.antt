-- Letters in flight, found by their ids.
use Rattle.std.specs.Prelude.{if◌then◌else◌, ℕ, zero, suc, ◌+◌, ◌-◌, ◌==◌, Bool, true, false, ◌&&◌, not, List, [], ◌∷◌, ◌++◌, length, Option, Some, None, slice_get}
use Rattle.std.specs.Option.{option_map}
use Rattle.tv_base.specs.declared.numbers.ActorNo.{ActorNo}
use Rattle.letter_types.specs.declared.bodies.Body.{Body}
use Rattle.letter_types.specs.declared.bodies.Body.TheVariants.{Go}
use Rattle.letter_types.specs.declared.entries.Entry.{Entry}
use Rattle.letter_types.specs.declared.entries.Letter.{Letter}
use Rattle.letter_types.specs.declared.entries.LetterId.{LetterId}
use Rattle.letter_types.specs.declared.entries.Outgoing.{Outgoing}
use Rattle.letter_types.specs.Letters.{go}
use Rattle.history_reader.specs.declared.in_flight.Sender.{Sender}
use Rattle.history_reader.specs.Walks.{LettersLeft}

-- whether Go stands for what a letter said, which was taken
abbrev pub is_spent : Body → Bool
is_spent Go = true
is_spent _ = false

-- to whom a letter is addressed that is left
abbrev pub addressee_of : Option Outgoing → Option ActorNo
addressee_of None = None
addressee_of (Some o) = if is_spent o.body then None else Some o.to

-- to whom a letter is addressed, if there is one
abbrev pub addressee_to : Option Letter → Option ActorNo
addressee_to letter = option_map (λ (l : Letter). l.to) letter

-- the letter of this id, where what is left at its place isn't Go
abbrev pub letter_at : LetterId → ActorNo → Option Outgoing → Option Letter
letter_at id from None = None
letter_at id from (Some o) =
    if is_spent o.body then None else Some (record { id = id; from = from; to = o.to; body = o.body })

-- among what is left of a sender's letters
abbrev pub letter_by : LetterId → Option Sender → Option Letter
letter_by id None = None
letter_by id (Some sender) = letter_at id sender.from (slice_get sender.sent id.place)

-- Go, where it wasn't taken
abbrev pub go_left : ℕ → Bool → ℕ → Option Letter
go_left client begun place = if (place == 0) && not begun then Some (go client) else None

-- the letter in flight of this id
abbrev pub letter_of : ℕ → LettersLeft → LetterId → Option Letter
letter_of client letters id =
    if id.stamp.0 == 0 then go_left client letters.begun id.place
    else letter_by id (slice_get letters.senders (id.stamp.0 - 1))

-- a letter that is addressed to this actor
abbrev pub addressed : ActorNo → Option Letter → Option Letter
addressed actor None = None
addressed actor (Some letter) = if letter.to.0 == actor.0 then Some letter else None

-- the letter that an entry takes, where the entry may come next
abbrev pub letter_for : ℕ → LettersLeft → Entry → Option Letter
letter_for client letters e =
    if e.stamp.0 == length letters.senders + 1 then addressed e.actor (letter_of client letters e.took.id) else None

-- letters of which the one at a place was taken
abbrev pub spent_at : ℕ → List Outgoing → List Outgoing
spent_at place [] = []
spent_at zero (o ∷ os) = record { to = o.to; body = Go } ∷ os
spent_at (suc place) (o ∷ os) = o ∷ spent_at place os

-- senders of which the one of this number sent it
abbrev pub spent_by : ℕ → ℕ → List Sender → List Sender
spent_by number place [] = []
spent_by zero place (s ∷ senders) = record { from = s.from; sent = spent_at place s.sent } ∷ senders
spent_by (suc number) place (s ∷ senders) = s ∷ spent_by number place senders

-- the letters that are left where one was taken, which is Go or another
abbrev pub left_without_if : Bool → LetterId → LettersLeft → LettersLeft
left_without_if true id letters = record { begun = true; senders = letters.senders }
left_without_if false id letters =
    record { begun = letters.begun; senders = spent_by (id.stamp.0 - 1) id.place letters.senders }

-- where the one of this id was taken
abbrev pub left_without : LetterId → LettersLeft → LettersLeft
left_without id letters = left_without_if (id.stamp.0 == 0) id letters

-- what an entry sent, with who sent it
abbrev pub sender_of : Entry → Sender
sender_of e = record { from = e.actor; sent = e.sent }

-- letters that are left, and what an entry sent
abbrev pub with_sent : Entry → LettersLeft → LettersLeft
with_sent e letters = record { begun = letters.begun; senders = letters.senders ++ sender_of e ∷ [] }

-- an entry with the letter that it took
abbrev pub entry_with : Entry → Letter → Entry
entry_with e letter = record { stamp = e.stamp; actor = e.actor; took = letter; sent = e.sent; acts = e.acts }

-- the letters that are left behind an entry, with those that it sent
abbrev pub left_behind : Entry → LettersLeft → LettersLeft
left_behind e letters = with_sent e (left_without e.took.id letters)
