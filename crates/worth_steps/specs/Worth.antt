-- What an item is worth at a version: its first value, folded over deeds version after version, and within a version in
-- the order in which they came.
use Rattle.std.specs.Prelude.{ℕ, zero, suc, Bool, true, false, ◌==◌, ◌||◌, ◌≡◌, max, List, [], ◌∷◌, ◌++◌, filter, fold, map}
use Rattle.commute_ops.specs.declared.kinds.Kind.{Kind}
use Rattle.commute_ops.specs.declared.kinds.Kind.TheVariants as kinds
use Rattle.commute_ops.specs.declared.value.Value.{Value}
use Rattle.commute_ops.specs.declared.value.Value.TheVariants.{Sum, Top, Bag}
use Rattle.script_parts.specs.Deeds.{after_deed}
use Rattle.script_parts.specs.Valid.{deed_fits}
use Rattle.script_parts.specs.declared.parts.Deed.{Deed}
use Rattle.script_parts.specs.declared.parts.Deed.TheVariants as deeds
use Rattle.script_parts.specs.declared.parts.TreeKind.TheVariants as trees

-- a deed on an item, of a member of the serial order in this version
pub record Noted : Type 0 where
  pub version : ℕ
  pub deed : Deed

-- those of version v, as they came
abbrev pub noted_in : ℕ → List Noted → List Noted
noted_in v ns = filter (λ (n : Noted). n.version == v) ns

-- those of versions up to v: version after version, and within a version as they came
abbrev pub in_order : List Noted → ℕ → List Noted
in_order ns zero = noted_in zero ns
in_order ns (suc v) = in_order ns v ++ noted_in (suc v) ns

abbrev pub after_noted : Value → Noted → Value
after_noted w n = after_deed n.deed w

-- what an item with this first value is worth at version v
abbrev pub worth_of : Value → List Noted → ℕ → Value
worth_of first ns v = fold after_noted first (in_order ns v)

-- some transaction may have the deed on an item of this kind
abbrev pub deed_suits : Kind → Deed → Bool
deed_suits kind deed = deed_fits trees.Update kind deed || (deed_fits trees.Read kind deed || deed_fits trees.Strict kind deed)

-- the deed alters its item: it isn't a get
abbrev pub alters : Deed → Bool
alters deeds.Get = false
alters (deeds.Apply op) = true
alters (deeds.Set n) = true
alters (deeds.Draw n) = true

-- the greatest of some numbers, 0 if there is none
abbrev pub greatest : List ℕ → ℕ
greatest [] = 0
greatest (n ∷ ns) = max n (greatest ns)

-- the greatest version with a deed that alters the item, 0 if there is none
abbrev pub last_altered : List Noted → ℕ
last_altered ns = greatest (map (λ (n : Noted). n.version) (filter (λ (n : Noted). alters n.deed) ns))

-- a value that an item may begin with: a bag is empty
abbrev pub MayBegin : Value → Type 0
MayBegin (Bag ns) = ns ≡ []
MayBegin (Sum n) = Unit {0}
MayBegin (Top n) = Unit {0}

abbrev pub value_kind : Value → Kind
value_kind (Sum n) = kinds.Sum
value_kind (Top n) = kinds.Top
value_kind (Bag ns) = kinds.Bag
