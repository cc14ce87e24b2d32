-- What is staged, as it lies in memory, and which operations may be made where their items are. Private code alone cites
-- these definitions.
use Rattle.std.specs.Prelude.{ℕ, Bool, true, false, not, ◌&&◌, ◌||◌, ◌+◌, ◌==◌, List, [], ◌∷◌, ◌++◌, if◌then◌else◌, nat_le, unsigned_abs}
use Rattle.tv_base.specs.declared.numbers.ItemNo.{ItemNo}
use Rattle.tv_base.specs.declared.numbers.Version.{Version}
use Rattle.commute_ops.specs.declared.kinds.Op.{Op}
use Rattle.commute_ops.specs.declared.kinds.Op.TheVariants.{Add, Top as Raise, Put}
use Rattle.commute_ops.specs.declared.value.Value.{Value}
use Rattle.commute_ops.specs.declared.value.Value.TheVariants.{Sum, Top}
use Rattle.item_versions.specs.declared.table.StagedOp.{StagedOp}
use Rattle.item_versions.specs.Item.{Held, held_in_place, holds, touched}
use Rattle.item_versions.specs.Table.{Table, StagedItems, Copied, InPlace, replaced, table_in_place}

-- copies of items
abbrev pub copied_items : Table → StagedItems
copied_items [] = []
copied_items (e ∷ es) = Copied e.0 e.1 ∷ copied_items es

-- what is staged, of operations in the order in which they are made
abbrev pub latest_first : List StagedOp → StagedItems
latest_first [] = []
latest_first (o ∷ os) = latest_first os ++ InPlace o.item o.version o.op ∷ []

-- the operations are made before the copies are put in their places
abbrev pub staged_items : Table → List StagedOp → StagedItems
staged_items es os = copied_items es ++ latest_first os

-- a table with copies of items in their places; the first counts
abbrev pub copied_over : Table → Table → Table
copied_over [] t = t
copied_over (e ∷ es) t = replaced e.0 e.1 (copied_over es t)

-- a table after the operations
abbrev pub table_after_staged : List StagedOp → Table → Table
table_after_staged [] t = t
table_after_staged (o ∷ os) t = table_after_staged os (table_in_place o.version o.item o.op t)

-- what is held of an item after those of them that are on it
abbrev pub held_after_staged : ItemNo → List StagedOp → Held → Held
held_after_staged n [] h = h
held_after_staged n (o ∷ os) h =
    held_after_staged n os (if o.item.0 == n.0 then held_in_place o.version o.op h else h)

-- a table with an item behind it, as it is after an update
abbrev pub with_touched : Table → ItemNo → Version → Op → Held → Table
with_touched t item v op h = t ++ (item, touched v op h) ∷ []

-- the same of an item as it is after those of the operations that are on it
abbrev pub with_copied : Table → List StagedOp → ItemNo → Version → Op → Held → Table
with_copied t os item v op h = with_touched t item v op (held_after_staged item os h)

-- one operation more, that is to be made where its item is
abbrev pub with_staged_op : List StagedOp → ItemNo → Version → Op → List StagedOp
with_staged_op os item v op = os ++ record { item = item; version = v; op = op } ∷ []

-- one of them is on the item
abbrev pub has_op : ItemNo → List StagedOp → Bool
has_op n [] = false
has_op n (o ∷ os) = o.item.0 == n.0 || has_op n os

-- by how much an operation may change the magnitude of a sum
abbrev pub op_amount : Op → ℕ
op_amount (Add a) = unsigned_abs a
op_amount (Raise a) = 0
op_amount (Put a) = 0

-- by how much all of them may
abbrev pub amounts_of : List StagedOp → ℕ
amounts_of [] = 0
amounts_of (o ∷ os) = op_amount o.op + amounts_of os

-- the value is a top, or a sum of at most this magnitude, and the operation is of its kind
abbrev pub takes_op : Value → Op → ℕ → Bool
takes_op (Sum s) (Add a) most = nat_le (unsigned_abs s.0) most
takes_op (Top t) (Raise a) most = true
takes_op _ _ most = false

-- so is the value of version v and of each later one
abbrev pub all_take : Version → Op → ℕ → Held → Bool
all_take v op most [] = true
all_take v op most (x ∷ xs) = (not (nat_le v.0 x.0.0) || takes_op x.1 op most) && all_take v op most xs

-- and version v is held
abbrev pub takes_in_place : Version → Op → ℕ → Held → Bool
takes_in_place v op most h = holds v h && all_take v op most h
