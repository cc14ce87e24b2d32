-- What a table holds: items by number.
use Rattle.std.specs.Prelude.{◌<◌, Bool, false, List, [], ◌∷◌, if◌then◌else◌, ◌==◌, Option, Some, None, ℕ, ◌≡◌, IfSome, IsTrue, slice_get, slice_set}
use Rattle.std.specs.List.{All, AllByRecursion, AllPairs}
use Rattle.tv_base.specs.declared.numbers.ItemNo.{ItemNo}
use Rattle.tv_base.specs.declared.numbers.Version.{Version}
use Rattle.commute_ops.specs.declared.kinds.Op.{Op}
use Rattle.commute_ops.specs.declared.value.Value.{Value}
use Rattle.item_versions.specs.Item.{Held, IsHeld, held_in_place, touched, may_touch, has_room, put_value}

-- items by number
abbrev pub Table : Type 0
Table = List (ItemNo × Held)

-- the numbers ascend
abbrev pub HasAscendingItems : Table → Type 0
HasAscendingItems t = AllPairs (λ a b. a.0.0 < b.0.0) t

-- of each item at least one version is held, and its versions ascend
abbrev pub IsHeldTable : Table → Type 0
IsHeldTable t = AllByRecursion (λ e. IsHeld e.1) t

-- what a table always keeps: its numbers ascend, and so do the versions of each item
pub record IsTable (t : Table) : Type 0 where
  pub ascending : HasAscendingItems t
  pub held : IsHeldTable t

-- the number is greater than every number of the table
abbrev pub IsAfter : ItemNo → Table → Type 0
IsAfter n t = All (λ e. e.0.0 < n.0) t

-- what the table holds of an item
abbrev pub item_in : ItemNo → Table → Option Held
item_in n [] = None
item_in n (e ∷ es) = if e.0.0 == n.0 then Some e.1 else item_in n es

-- the item is put in place of what the table holds of it
abbrev pub replaced : ItemNo → Held → Table → Table
replaced n h [] = []
replaced n h (e ∷ es) = if e.0.0 == n.0 then (n, h) ∷ es else e ∷ replaced n h es

-- what is held of the item at a place becomes this of what it was
abbrev pub ChangesAt : ℕ → (Held → Held) → Table → Table → Type 0
ChangesAt place f old new = IfSome (slice_get old place) (λ e. new ≡ slice_set old place (e.0, f e.1))

-- the same, and where the item is not there it comes last
abbrev pub table_with_item : ItemNo → Held → Table → Table
table_with_item n h [] = (n, h) ∷ []
table_with_item n h (e ∷ es) = if e.0.0 == n.0 then (n, h) ∷ es else e ∷ table_with_item n h es

-- an operation is made where an item is
abbrev pub made_in_place : Version → Op → Option Held → ItemNo → Table → Table
made_in_place v op None n t = t
made_in_place v op (Some h) n t = replaced n (held_in_place v op h) t

-- the table after an operation that is made where the item is
abbrev pub table_in_place : Version → ItemNo → Op → Table → Table
table_in_place v n op t = made_in_place v op (item_in n t) n t

-- what is staged of an item: all that is to be held of it, or an operation that is to be made where it is
pub data StagedItem : Type 0 where
  Copied : ItemNo → Held → StagedItem
  InPlace : ItemNo → Version → Op → StagedItem

-- what is staged; what is made last comes first
abbrev pub StagedItems : Type 0
StagedItems = List StagedItem

-- the table with all that is staged
abbrev pub pending : StagedItems → Table → Table
pending [] t = t
pending (Copied n h ∷ es) t = replaced n h (pending es t)
pending (InPlace n v op ∷ es) t = table_in_place v n op (pending es t)

-- what is held of an item goes through an update
abbrev pub updated : Version → Op → Option Held → ItemNo → Table → Table
updated v op None n t = t
updated v op (Some h) n t = replaced n (touched v op h) t

-- the table after an update of one item
abbrev pub touched_in : Version → ItemNo → Op → Table → Table
touched_in v n op t = updated v op (item_in n t) n t

-- the item is there, and the update may be made
abbrev pub may_touch_in : Version → ItemNo → Op → Table → Bool
may_touch_in v n op t = elim (item_in n t) [ None ↦ false | Some h ↦ may_touch v op h ]

-- the item is there, and has room for version v
abbrev pub has_room_in : Version → ItemNo → Table → Bool
has_room_in v n t = elim (item_in n t) [ None ↦ false | Some h ↦ has_room v h ]

-- if an update of the item in version v may be made, there is room for the version
abbrev pub HasRoomIfMadeIn : Version → ItemNo → Op → Table → Type 0
HasRoomIfMadeIn v n op t = IsTrue (may_touch_in v n op t) → IsTrue (has_room_in v n t)

-- an update of one item is staged, behind what was staged at this table before
abbrev pub IsStagedIn : Version → ItemNo → Op → Table → StagedItems → StagedItems → Type 0
IsStagedIn v n op t old new = pending new t ≡ touched_in v n op (pending old t)

-- what is held of an item is given a value
abbrev pub valued : Version → Value → Option Held → ItemNo → Table → Table
valued v w None n t = t
valued v w (Some h) n t = replaced n (put_value v w h) t

-- the table once version v of one item has this value
abbrev pub put_value_in : Version → ItemNo → Value → Table → Table
put_value_in v n w t = valued v w (item_in n t) n t
