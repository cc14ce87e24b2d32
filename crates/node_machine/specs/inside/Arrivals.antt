-- Deferred messages by the numbers of their arrivals, and how they are found by places. Private code
-- alone cites these definitions.
use Rattle.std.specs.Prelude.{◌≡◌, ◌<◌, ℕ, Bool, false, if◌then◌else◌, List, [], ◌∷◌, ◌++◌, Option, Some, None, IsSome}
use Rattle.std.specs.List.Sorted.{IsStrictlySortedBy}
use Rattle.std.specs.Map.{keys_of, lookup, values_of}
use Rattle.std.specs.Ordering.{nat_cmp, is_eq}
use Rattle.tv_base.specs.declared.numbers.SubNo.{SubNo}
use Rattle.tv_base.specs.declared.numbers.TreeNo.{TreeNo}
use Rattle.letter_types.specs.declared.bodies.Body.TheVariants.{Wake}
use Rattle.letter_types.specs.declared.entries.Letter.{Letter}
use Rattle.letter_types.specs.declared.entries.Outgoing.{Outgoing}
use Rattle.letter_types.specs.declared.kept.KeptLetter.{KeptLetter}
use Rattle.letter_types.specs.declared.kept.KeepReason.{KeepReason}
use Rattle.letter_types.specs.Kept.{is_called, is_called_for, with_called}
use Rattle.node_machine.specs.declared.places.Key.{Key}
use Rattle.node_machine.specs.declared.places.KeptPlace.{KeptPlace}
use Rattle.node_machine.specs.Again.{kept_again}
use Rattle.node_machine.specs.inside.Places.{finds, has_place, is_why, place_order}

-- deferred messages, each with the number of its arrival
abbrev pub Arrived : Type 0
Arrived = List (ℕ × KeptLetter)

-- the message that came then, if it is deferred still
abbrev pub came : ℕ → Arrived → Option KeptLetter
came a es = lookup (λ k. is_eq (nat_cmp a k)) es

-- it is found by this key
abbrev pub is_found : Key → Option KeptLetter → Bool
is_found q None = false
is_found q (Some x) = finds x.tree x.sub x.why q

-- the places are just those of the messages, and each came before the next
pub record ArePlaced (next : ℕ) (es : Arrived) (ps : List KeptPlace) : Type 0 where
  pub ascending : IsStrictlySortedBy nat_cmp (keys_of es)
  pub in_order : IsStrictlySortedBy place_order ps
  pub before : (a : ℕ) → IsSome (came a es) → a < next
  pub found : (p : KeptPlace) → has_place p ps ≡ is_found p.key (came p.arrival es)

-- when the first called message of a subtransaction came
abbrev pub called_at : TreeNo → SubNo → Arrived → Option ℕ
called_at t k [] = None
called_at t k (e ∷ es) = if is_called_for t k e.1 then Some e.0 else called_at t k es

-- the messages without it
abbrev pub without_first : TreeNo → SubNo → Arrived → Arrived
without_first t k [] = []
without_first t k (e ∷ es) = if is_called_for t k e.1 then es else e ∷ without_first t k es

-- the messages, with this one in the place of the one that came then
abbrev pub with_letter_at : ℕ → Letter → Arrived → Arrived
with_letter_at a l [] = []
with_letter_at a l (e ∷ es) =
    if is_eq (nat_cmp a e.0) then (e.0, record e.1 { letter = l }) ∷ es else e ∷ with_letter_at a l es

-- whatever came then is found by the same keys as before
pub record FindsSame (old new : Arrived) : Type 0 where
  pub at : (q : Key) (a : ℕ) → is_found q (came a new) ≡ is_found q (came a old)
  pub some : (a : ℕ) → IsSome (came a new) → IsSome (came a old)

-- a called message is deferred again, last
abbrev pub IsKeptAgain : TreeNo → SubNo → KeepReason → Arrived → Arrived → Type 0
IsKeptAgain t k why old new = values_of new ≡ kept_again t k why (values_of old)

-- once all that wait for this are called, both are the same
abbrev pub CallSame : Key → Arrived → Arrived → Type 0
CallSame q old new = with_called (is_why q) (values_of new) ≡ with_called (is_why q) (values_of old)

-- the message that came then is called
abbrev pub is_called_now : Option KeptLetter → Bool
is_called_now None = false
is_called_now (Some x) = is_called x.why

-- of places, when the first came at which a called message is
abbrev pub called_in : Arrived → List KeptPlace → Option ℕ
called_in es [] = None
called_in es (p ∷ ps) = if is_called_now (came p.arrival es) then Some p.arrival else called_in es ps

-- the Wake of the message that came then
abbrev pub wake_of : Option KeptLetter → List Outgoing
wake_of None = []
wake_of (Some x) = record { to = x.letter.to; body = Wake x.tree x.sub } ∷ []

-- the Wakes of the messages at places
abbrev pub wakes_in : Arrived → List KeptPlace → List Outgoing
wakes_in es [] = []
wakes_in es (p ∷ ps) = wake_of (came p.arrival es) ++ wakes_in es ps
