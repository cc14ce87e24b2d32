-- Messages in flight.
use Rattle.std.specs.Prelude.{if◌then◌else◌, ℕ, Bool, ◌==◌, ◌&&◌, ◌+◌, List, [], ◌∷◌, ◌++◌, filter, Option, Some, None}
use Rattle.letter_types.specs.declared.bodies.Body.TheVariants.{Go}
use Rattle.letter_types.specs.declared.entries.LetterId.{LetterId}
use Rattle.letter_types.specs.declared.entries.Letter.{Letter}
use Rattle.letter_types.specs.declared.entries.Outgoing.{Outgoing}
use Rattle.letter_types.specs.declared.entries.Entry.{Entry}

-- the first message, which the client of this number has from itself
abbrev pub go : ℕ → Letter
go client = record {
  id = record { stamp = record { 0 = 0 }; place = 0 };
  from = record { 0 = client };
  to = record { 0 = client };
  body = Go;
}

abbrev pub same_id : LetterId → LetterId → Bool
same_id a b = (a.stamp.0 == b.stamp.0) && (a.place == b.place)

-- the messages that an actor sends at a stamp, from a place on
abbrev pub sealed : ℕ → ℕ → ℕ → List Outgoing → List Letter
sealed stamp actor place [] = []
sealed stamp actor place (o ∷ os) =
    record {
      id = record { stamp = record { 0 = stamp }; place = place };
      from = record { 0 = actor };
      to = o.to;
      body = o.body;
    }
    ∷ sealed stamp actor (place + 1) os

-- the messages that an entry sent
abbrev pub letters_of : Entry → List Letter
letters_of e = sealed e.stamp.0 e.actor.0 0 e.sent

-- the message of an id
abbrev pub find_id : LetterId → List Letter → Option Letter
find_id id [] = None
find_id id (l ∷ ls) = if same_id id l.id then Some l else find_id id ls

-- the messages without the one of an id
abbrev pub drop_id : LetterId → List Letter → List Letter
drop_id id [] = []
drop_id id (l ∷ ls) = if same_id id l.id then ls else l ∷ drop_id id ls

-- the messages in flight after a past, which has the newest entry first: in order of id, from Go on
abbrev pub in_flight_after : ℕ → List Entry → List Letter
in_flight_after client [] = go client ∷ []
in_flight_after client (e ∷ past) = drop_id e.took.id (in_flight_after client past) ++ letters_of e

-- the entries of one actor, in order
abbrev pub own : ℕ → List Entry → List Entry
own a h = filter (λ e. e.actor.0 == a) h
