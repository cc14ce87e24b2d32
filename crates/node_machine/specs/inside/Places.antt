-- Places: a key by which a deferred message is found, with the number of its arrival. Private code
-- alone cites these definitions.
use Rattle.std.specs.Prelude.{◌≡◌, ◌<◌, ℕ, Bool, true, false, not, ◌&&◌, ◌||◌, List, Option, Some, None}
use Rattle.std.specs.List.{list_any}
use Rattle.std.specs.declared.cmp.Ordering.{Ordering}
use Rattle.std.specs.Ordering.{nat_cmp, is_eq}
use Rattle.tv_base.specs.declared.numbers.SubNo.{SubNo}
use Rattle.tv_base.specs.declared.numbers.TreeNo.{TreeNo}
use Rattle.letter_types.specs.declared.kept.KeepReason.{KeepReason}
use Rattle.letter_types.specs.declared.kept.KeepReason.TheVariants.{ForShow, ForHolder, Called}
use Rattle.node_machine.specs.declared.places.Key.{Key}
use Rattle.node_machine.specs.declared.places.Key.TheVariants.{Sub, Show, Holder}
use Rattle.node_machine.specs.declared.places.KeptPlace.{KeptPlace}
use Rattle.node_machine.specs.contracts.places.KeyOrd.TheImpl as key
use Rattle.node_machine.specs.contracts.places.KeptPlaceOrd.TheImpl as place

-- keys and places in their order
abbrev pub key_order : Key → Key → Ordering
key_order a b = (key.cmp-value).it a b

abbrev pub place_order : KeptPlace → KeptPlace → Ordering
place_order a b = (place.cmp-value).it a b

-- the place with this key of what came then
abbrev pub place_by : Key → ℕ → KeptPlace
place_by q a = record { key = q; arrival = a }

-- the place is one of these
abbrev pub has_place : KeptPlace → List KeptPlace → Bool
has_place p ps = list_any (λ a. is_eq (place_order p a)) ps

-- the key of what a deferred message waits for, but for its Wake
abbrev pub key_of_why : KeepReason → Option Key
key_of_why ForShow = Some Show
key_of_why (ForHolder h) = Some (Holder h)
key_of_why Called = None

-- a message deferred for this reason is found by this key
abbrev pub is_this : Option Key → Key → Bool
is_this None q = false
is_this (Some k) q = is_eq (key_order k q)

abbrev pub is_why : Key → KeepReason → Bool
is_why q why = is_this (key_of_why why) q

-- the key is one of what messages wait for
abbrev pub is_reason : Key → Bool
is_reason (Sub t k) = false
is_reason _ = true

-- a message is found by its subtransaction and by what it waits for
abbrev pub finds : TreeNo → SubNo → KeepReason → Key → Bool
finds t k why q = is_eq (key_order (Sub t k) q) || is_why q why

-- nothing came then
abbrev pub IsFree : ℕ → List KeptPlace → Type 0
IsFree a ps = (q : Key) → has_place (place_by q a) ps ≡ false

-- nothing with this key came before the next
abbrev pub HasNone : Key → ℕ → List KeptPlace → Type 0
HasNone q next ps = (a : ℕ) → a < next → has_place (place_by q a) ps ≡ false

-- the place is one of the message that came then
abbrev pub is_place_of : ℕ → TreeNo → SubNo → KeepReason → KeptPlace → Bool
is_place_of a t k why p = finds t k why p.key && is_eq (nat_cmp a p.arrival)

-- its places are besides those before
pub record ArePlacesAdded (a : ℕ) (t : TreeNo) (k : SubNo) (why : KeepReason) (old new : List KeptPlace) : Type 0 where
  pub at : (p : KeptPlace) → has_place p new ≡ (is_place_of a t k why p || has_place p old)

-- its places are no more
pub record ArePlacesTaken (a : ℕ) (t : TreeNo) (k : SubNo) (why : KeepReason) (old new : List KeptPlace) : Type 0 where
  pub at : (p : KeptPlace) → has_place p new ≡ (not (is_place_of a t k why p) && has_place p old)

-- the same places are
pub record ArePlacesSame (old new : List KeptPlace) : Type 0 where
  pub at : (p : KeptPlace) → has_place p new ≡ has_place p old
