-- The gets of a read transaction find a value, since each item of their node is there.
use Rattle.std.proofs.Common.{◌≡◌, ℕ, ◌&&◌, Bool, true, List, [], ◌∷◌, refl, Option, Some, None}
use Rattle.std.specs.Prelude.{is_some, slice_get}
use Rattle.std.specs.List.{AllByRecursion}
use Rattle.tv_base.specs.declared.numbers.ItemNo.{ItemNo}
use Rattle.tv_base.specs.declared.numbers.Version.{Version}
use Rattle.commute_ops.specs.declared.kinds.Kind.{Kind}
use Rattle.commute_ops.specs.declared.value.Value.{Value}
use Rattle.item_versions.specs.Item.{Held, seen_after}
use Rattle.item_versions.specs.Table.{Table, item_in}
use Rattle.tx_trees.specs.Valid.{deed_fits, OpAt, IsOp}
use Rattle.tx_trees.specs.declared.parts.Deed.{Deed}
use Rattle.tx_trees.specs.declared.parts.Deed.TheVariants.{Apply, Get, Set, Draw}
use Rattle.tx_trees.specs.declared.parts.ItemRow.{ItemRow}
use Rattle.tx_trees.specs.declared.parts.SubOp.{SubOp}
use Rattle.tx_trees.specs.declared.parts.TreeKind.TheVariants as trees
use Rattle.world_model.specs.Reads.{seen_in, got_by_deed, can_get}
use Rattle.tree_laws.proofs.loads.Tables.{ItemIn, TableIn}

-- an item that is there is seen in any version
seen_there : (kind : Kind) (b : ℕ) (v : Version) (x : ItemNo) (items : Table) (found : Option Held) → item_in x items ≡ found
    → ItemIn kind b found → (w : Value) × (seen_in v x items ≡ Some w)
seen_there kind b v x items None at ok = absurd ok
seen_there kind b v x items (Some []) at ok = absurd ok
seen_there kind b v x items (Some (y ∷ ys)) at ok = (seen_after y.1 v ys, rw (at, seen_in) refl)

got_deed : (rows : List ItemRow) (p : ℕ) (bound : ℕ → ℕ) (v : Version) (x : ItemNo) (deed : Deed) (items : Table) (r : ItemRow)
    → slice_get rows x.0 ≡ Some r → r.node.0 ≡ p → deed_fits trees.Read r.kind deed ≡ true → TableIn rows p bound items
    → (w : Value) × (got_by_deed v x deed items ≡ Some w)
got_deed rows p bound v x Get items r at node fit all = seen_there r.kind (bound x.0) v x items (item_in x items) refl (all x.0 r at node)
got_deed rows p bound v x (Apply op) items r at node fit all = absurd (cc fit)
got_deed rows p bound v x (Set a) items r at node fit all = absurd (cc fit)
got_deed rows p bound v x (Draw a) items r at node fit all = absurd (cc fit)

got_of : (rows : List ItemRow) (p : ℕ) (bound : ℕ → ℕ) (v : Version) (o : SubOp) (items : Table) (found : Option ItemRow)
    → slice_get rows o.item.0 ≡ found → OpAt trees.Read p o found → TableIn rows p bound items
    → (w : Value) × (got_by_deed v o.item o.deed items ≡ Some w)
got_of rows p bound v o items None at is_op all = absurd is_op
got_of rows p bound v o items (Some r) at is_op all = got_deed rows p bound v o.item o.deed items r at is_op.0 is_op.1 all

some_and : (found : Option Value) (w : Value) (b : Bool) → found ≡ Some w → b ≡ true → (is_some found && b) ≡ true
some_and found w b is rest = rw is rest

-- gets that fit each find a value
pub gets_found : (rows : List ItemRow) (p : ℕ) (bound : ℕ → ℕ) (v : Version) (os : List SubOp) (items : Table)
    → AllByRecursion (IsOp rows trees.Read p) os → TableIn rows p bound items → can_get v os items ≡ true
gets_found rows p bound v [] items ops all = refl
gets_found rows p bound v (o ∷ os) items ops all =
    let first = got_of rows p bound v o items (slice_get rows o.item.0) refl ops.0 all in
    some_and (got_by_deed v o.item o.deed items) first.0 (can_get v os items) first.1 (gets_found rows p bound v os items ops.1 all)
