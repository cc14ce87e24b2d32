-- What an item holds: its values by version.
use Rattle.std.specs.Prelude.{ℕ, Bool, true, false, not, ◌&&◌, ◌||◌, ◌<◌, ◌≤◌, ◌==◌, List, [], ◌∷◌, ◌++◌, length, map, if◌then◌else◌, nat_lt, nat_le, IsTrue, ⊤, Option, Some, None}
use Rattle.std.specs.List.{filter}
use Rattle.tv_base.specs.declared.numbers.Version.{Version}
use Rattle.commute_ops.specs.declared.value.Value.{Value}
use Rattle.commute_ops.specs.declared.kinds.Op.{Op}
use Rattle.commute_ops.specs.Ops.{applied, is_bag, may_apply}
use Rattle.item_versions.specs.declared.item.TheConstants.{MOST_VERSIONS}

-- values by version
abbrev pub Held : Type 0
Held = List (Version × Value)

-- the versions ascend, and each is above one that is given
abbrev pub AscendsAbove : ℕ → Held → Type 0
AscendsAbove n [] = ⊤
AscendsAbove n (x ∷ xs) = (n < x.0.0) × AscendsAbove x.0.0 xs

-- at least one version, and they ascend
abbrev pub IsHeld : Held → Type 0
IsHeld [] = ⊥
IsHeld (x ∷ xs) = AscendsAbove x.0.0 xs

-- the value of the last version that is at most v, or the one given where there is none
abbrev pub seen_after : Value → Version → Held → Value
seen_after w v [] = w
seen_after w v (x ∷ xs) = seen_after (if nat_le x.0.0 v.0 then x.1 else w) v xs

-- the value of the greatest version that is at most v, or of the lowest version
abbrev pub seen : Version → Held → Option Value
seen v [] = None
seen v (x ∷ xs) = Some (seen_after x.1 v xs)

-- the versions below v, and those above it
abbrev pub below : Version → Held → Held
below v xs = filter (λ x. nat_lt x.0.0 v.0) xs

abbrev pub above : Version → Held → Held
above v xs = filter (λ x. nat_lt v.0 x.0.0) xs

-- the operation applied to each value
abbrev pub applied_to_all : Op → Held → Held
applied_to_all op xs = map (λ x. (x.0, applied x.1 op)) xs

-- what is held after an update in version v: v is made where it is not there, and
-- the operation is applied to v and every later version
abbrev pub touched : Version → Op → Held → Held
touched v op [] = []
touched v op (x ∷ xs) =
    below v (x ∷ xs) ++ (v, applied (seen_after x.1 v xs) op) ∷ applied_to_all op (above v (x ∷ xs))

-- the operation may be applied to each version above v
abbrev pub may_apply_above : Version → Op → Held → Bool
may_apply_above v op [] = true
may_apply_above v op (x ∷ xs) = (not (nat_lt v.0 x.0.0) || may_apply x.1 op) && may_apply_above v op xs

-- an update in version v may be made: to what is seen there, and to every later version
abbrev pub may_touch : Version → Op → Held → Bool
may_touch v op [] = false
may_touch v op (x ∷ xs) = may_apply (seen_after x.1 v xs) op && may_apply_above v op (x ∷ xs)

-- version v is held
abbrev pub holds : Version → Held → Bool
holds v [] = false
holds v (x ∷ xs) = x.0.0 == v.0 || holds v xs

-- there is room for version v: it is held, or fewer versions are held than may be
abbrev pub has_room : Version → Held → Bool
has_room v xs = holds v xs || nat_lt (length xs) MOST_VERSIONS

-- if an update in version v may be made, there is room for the version
abbrev pub HasRoomIfMade : Version → Op → Held → Type 0
HasRoomIfMade v op h = IsTrue (may_touch v op h) → IsTrue (has_room v h)

-- some value is a bag
abbrev pub has_bag : Held → Bool
has_bag [] = false
has_bag (x ∷ xs) = is_bag x.1 || has_bag xs

-- what is held once version v has this value: v is made where it is not there, and all other versions stay
abbrev pub put_value : Version → Value → Held → Held
put_value v w xs = below v xs ++ (v, w) ∷ above v xs

-- a sum or a top after an operation that may be applied to it; any other value stays
abbrev pub value_in_place : Value → Op → Value
value_in_place w op = if not (is_bag w) && may_apply w op then applied w op else w

-- the same of the value of version v or of a later one
abbrev pub entry_in_place : Version → Op → Version × Value → Version × Value
entry_in_place v op x = if nat_le v.0 x.0.0 then (x.0, value_in_place x.1 op) else x

-- what is held after an operation in version v, made where it is: to v, if it is held, and to each later version
abbrev pub held_in_place : Version → Op → Held → Held
held_in_place v op xs = map (λ x. entry_in_place v op x) xs

-- what is held after a collection to version f
abbrev pub collected : Version → Held → Held
collected f [] = []
collected f (x ∷ xs) = (f, seen_after x.1 f xs) ∷ above f (x ∷ xs)

-- some version is at most f
abbrev pub CanCollect : Version → Held → Type 0
CanCollect f [] = ⊥
CanCollect f (x ∷ xs) = x.0.0 ≤ f.0
