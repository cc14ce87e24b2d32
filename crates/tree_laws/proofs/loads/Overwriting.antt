-- Sets and draws keep to bounds as operations that commute do: what they overwrite may be, and what is held after them
-- keeps to the greater bound. So a commit can always be applied.
use Rattle.std.proofs.Common.{◌≡◌, ℕ, ◌+◌, ◌≤◌, ◌==◌, Bool, true, false, List, [], ◌∷◌, refl, sym, subst, arith, Option, Some, None}
use Rattle.std.specs.Prelude.{ℤ, ◌-ℤ◌, if◌then◌else◌, nat_lt, slice_get, unsigned_abs}
use Rattle.std.specs.List.{AllByRecursion}
use Rattle.std.proofs.lemmas.Bool.Decides.{nat_tests}
use Rattle.std.proofs.lemmas.Bool.{and_from}
use Rattle.std.proofs.lemmas.Int.{ints}
use Rattle.tv_base.specs.declared.numbers.ItemNo.{ItemNo}
use Rattle.tv_base.specs.declared.numbers.Version.{Version}
use Rattle.commute_ops.specs.declared.kinds.Kind.{Kind}
use Rattle.commute_ops.specs.declared.kinds.Kind.TheVariants.{Sum as SumKind, Top as TopKind, Bag as BagKind}
use Rattle.commute_ops.specs.declared.kinds.TheConstants.{MOST_AMOUNT}
use Rattle.commute_ops.specs.declared.value.Value.{Value}
use Rattle.commute_ops.specs.declared.value.Value.TheVariants.{Sum, Top, Bag}
use Rattle.item_versions.specs.Item.{Held, above, below, has_room, put_value, seen, seen_after}
use Rattle.item_versions.specs.Table.{Table, item_in, put_value_in, replaced}
use Rattle.board_rules.specs.Stands.{overwrites}
use Rattle.board_rules.specs.Worth.{after_deed}
use Rattle.tx_trees.specs.Valid.{IsOp, OpAt, deed_fits, magnitude, ops_load}
use Rattle.tx_trees.specs.declared.parts.Deed.{Deed}
use Rattle.tx_trees.specs.declared.parts.Deed.TheVariants.{Apply, Get, Set, Draw}
use Rattle.tx_trees.specs.declared.parts.ItemRow.{ItemRow}
use Rattle.tx_trees.specs.declared.parts.SubOp.{SubOp}
use Rattle.tx_trees.specs.declared.parts.TreeKind.TheVariants as trees
use Rattle.world_model.specs.Decisions.{applied_in, can_apply, can_apply_op, can_overwrite, may_overwrite, overwritten_in, sees_fit}
use Rattle.world_model.specs.Reads.{seen_in}
use Rattle.world_model.proofs.Every.{each_append}
use Rattle.tree_laws.proofs.loads.Tables.{ItemIn, TableIn, bound_after, bounds_after, put_by, table_same}
use Rattle.tree_laws.proofs.loads.Values.{HeldIn, ValueIn, all_more, filter_in, held_of_all, seen_in as seen_value, within}

-- One value.
less : (z a : ℤ) (b : ℕ) → unsigned_abs z ≤ b → unsigned_abs (z -ℤ a) ≤ b + unsigned_abs a
less z a b le = omega (arith, ints)

-- what a set or a draw makes of a value keeps to the greater bound
pub overwritten_value : (kind : Kind) (deed : Deed) (b : ℕ) (w : Value) → deed_fits trees.Strict kind deed ≡ true
    → overwrites deed ≡ true → ValueIn kind b w → ValueIn kind (b + magnitude deed) (after_deed deed w)
overwritten_value SumKind (Set a) b (Sum z) fit over ok = omega arith
overwritten_value SumKind (Draw a) b (Sum z) fit over ok = less z.0 a b ok
overwritten_value TopKind (Set a) b (Top z) fit over ok = tt
overwritten_value SumKind deed b (Top z) fit over ok = absurd ok
overwritten_value SumKind deed b (Bag zs) fit over ok = absurd ok
overwritten_value TopKind deed b (Sum z) fit over ok = absurd ok
overwritten_value TopKind deed b (Bag zs) fit over ok = absurd ok
overwritten_value BagKind deed b (Sum z) fit over ok = absurd ok
overwritten_value BagKind deed b (Top z) fit over ok = absurd ok
overwritten_value BagKind (Set a) b (Bag zs) fit over ok = absurd (let no_such : false ≡ true = fit in cc no_such)
overwritten_value BagKind (Draw a) b (Bag zs) fit over ok = absurd (let no_such : false ≡ true = fit in cc no_such)
overwritten_value TopKind (Draw a) b (Top z) fit over ok = absurd (let no_such : false ≡ true = fit in cc no_such)
overwritten_value kind Get b w fit over ok = absurd (let no_such : false ≡ true = over in cc no_such)
overwritten_value kind (Apply op) b w fit over ok = absurd (let no_such : false ≡ true = over in cc no_such)

-- and the value may be overwritten
pub may_overwrite_value : (kind : Kind) (deed : Deed) (b : ℕ) (w : Value) → deed_fits trees.Strict kind deed ≡ true
    → overwrites deed ≡ true → ValueIn kind b w → b + magnitude deed ≤ MOST_AMOUNT → may_overwrite deed w ≡ true
may_overwrite_value SumKind (Set a) b (Sum z) fit over ok most = refl
may_overwrite_value SumKind (Draw a) b (Sum z) fit over ok most = within z.0 a b ok most
may_overwrite_value TopKind (Set a) b (Top z) fit over ok most = refl
may_overwrite_value SumKind deed b (Top z) fit over ok most = absurd ok
may_overwrite_value SumKind deed b (Bag zs) fit over ok most = absurd ok
may_overwrite_value TopKind deed b (Sum z) fit over ok most = absurd ok
may_overwrite_value TopKind deed b (Bag zs) fit over ok most = absurd ok
may_overwrite_value BagKind deed b (Sum z) fit over ok most = absurd ok
may_overwrite_value BagKind deed b (Top z) fit over ok most = absurd ok
may_overwrite_value BagKind (Set a) b (Bag zs) fit over ok most = absurd (let no_such : false ≡ true = fit in cc no_such)
may_overwrite_value BagKind (Draw a) b (Bag zs) fit over ok most = absurd (let no_such : false ≡ true = fit in cc no_such)
may_overwrite_value TopKind (Draw a) b (Top z) fit over ok most = absurd (let no_such : false ≡ true = fit in cc no_such)
may_overwrite_value kind Get b w fit over ok most = absurd (let no_such : false ≡ true = over in cc no_such)
may_overwrite_value kind (Apply op) b w fit over ok most = absurd (let no_such : false ≡ true = over in cc no_such)

-- What is held of an item.
put_held : (kind : Kind) (b c : ℕ) (v : Version) (w : Value) (h : Held) → b ≤ c → HeldIn kind b h → ValueIn kind c w
    → HeldIn kind c (put_value v w h)
put_held kind b c v w [] le all ok = absurd all
put_held kind b c v w (x ∷ xs) le all ok =
    held_of_all kind c (below v (x ∷ xs)) (above v (x ∷ xs)) (v, w)
    (each_append (λ (y : Version × Value). ValueIn kind c y.1) (below v (x ∷ xs)) ((v, w) ∷ above v (x ∷ xs))
    (all_more kind b c (below v (x ∷ xs)) le (filter_in kind b (λ y. nat_lt y.0.0 v.0) (x ∷ xs) all)) (
      ok,
      all_more kind b c (above v (x ∷ xs)) le (filter_in kind b (λ y. nat_lt v.0 y.0.0) (x ∷ xs) all),
    ))

-- One operation of a strict tree.
abbrev Keeps : List ItemRow → ℕ → (ℕ → ℕ) → Version → SubOp → Table → Type 0
Keeps rows p bound v o items = TableIn rows p (bound_after bound o.item.0 (magnitude o.deed)) (overwritten_in v o items)

none_more : (rows : List ItemRow) (p : ℕ) (bound : ℕ → ℕ) (n : ℕ) (items : Table) → TableIn rows p bound items
    → TableIn rows p (bound_after bound n 0) items
none_more rows p bound n items all = table_same rows p bound (bound_after bound n 0) items (λ x. by (n == x)) all where
  by : (b : Bool) {m : ℕ} → m ≡ m + (if b then 0 else 0)
  by true = omega arith
  by false = omega arith

over_held : (rows : List ItemRow) (p : ℕ) (bound : ℕ → ℕ) (v : Version) (o : SubOp) (items : Table) (r : ItemRow) (h : Held)
    → slice_get rows o.item.0 ≡ Some r → deed_fits trees.Strict r.kind o.deed ≡ true → overwrites o.deed ≡ true
    → item_in o.item items ≡ Some h → HeldIn r.kind (bound o.item.0) h → TableIn rows p bound items
    → Keeps rows p bound v o items
over_held rows p bound v o items r [] at fit over here ok all = absurd ok
over_held rows p bound v o items r (x ∷ xs) at fit over here ok all =
    let w = seen_after x.1 v xs in
    let more = bound o.item.0 + magnitude o.deed in
    let value = overwritten_value r.kind o.deed (bound o.item.0) w fit over (seen_value r.kind (bound o.item.0) v x.1 xs ok.0 ok.1) in
    let held = put_held r.kind (bound o.item.0) more v (after_deed o.deed w) (x ∷ xs) (omega arith) ok value in
    let is : overwritten_in v o items ≡ replaced o.item (put_value v (after_deed o.deed w) (x ∷ xs)) items =
    rw over (rw (here, seen_in) (rw (here, put_value_in) refl)) in
    rw is (λ y q qat node. put_by rows p bound o.item (magnitude o.deed) items (x ∷ xs) (put_value v (after_deed o.deed w) (x ∷ xs)) r at here held all y q qat node (o.item.0 == y) refl)

over_there : (rows : List ItemRow) (p : ℕ) (bound : ℕ → ℕ) (v : Version) (o : SubOp) (items : Table) (r : ItemRow) (found : Option Held)
    → slice_get rows o.item.0 ≡ Some r → deed_fits trees.Strict r.kind o.deed ≡ true → overwrites o.deed ≡ true
    → item_in o.item items ≡ found → ItemIn r.kind (bound o.item.0) found → TableIn rows p bound items
    → Keeps rows p bound v o items
over_there rows p bound v o items r None at fit over here ok all = absurd ok
over_there rows p bound v o items r (Some h) at fit over here ok all = over_held rows p bound v o items r h at fit over here ok all

-- a get leaves what is held, and counts nothing
got_nothing : (deed : Deed) → overwrites deed ≡ false → (kind : Kind) → deed_fits trees.Strict kind deed ≡ true → magnitude deed ≡ 0
got_nothing Get over kind fit = refl
got_nothing (Set a) over kind fit = absurd (let no_such : true ≡ false = over in cc no_such)
got_nothing (Draw a) over kind fit = absurd (let no_such : true ≡ false = over in cc no_such)
got_nothing (Apply op) over kind fit = absurd (let no_such : false ≡ true = fit in cc no_such)

by_overwrites : (rows : List ItemRow) (p : ℕ) (bound : ℕ → ℕ) (v : Version) (o : SubOp) (items : Table) (r : ItemRow) (over : Bool)
    → overwrites o.deed ≡ over → slice_get rows o.item.0 ≡ Some r → r.node.0 ≡ p → deed_fits trees.Strict r.kind o.deed ≡ true
    → TableIn rows p bound items → Keeps rows p bound v o items
by_overwrites rows p bound v o items r true over at node fit all =
    over_there rows p bound v o items r (item_in o.item items) at fit over refl (all o.item.0 r at node) all
by_overwrites rows p bound v o items r false over at node fit all =
    let none : magnitude o.deed ≡ 0 = got_nothing o.deed over r.kind fit in
    rw over (subst (λ (m : ℕ). TableIn rows p (bound_after bound o.item.0 m) items) (sym none) (none_more rows p bound o.item.0 items all))

one_of : (rows : List ItemRow) (p : ℕ) (bound : ℕ → ℕ) (v : Version) (o : SubOp) (items : Table) (found : Option ItemRow)
    → slice_get rows o.item.0 ≡ found → OpAt trees.Strict p o found → TableIn rows p bound items → Keeps rows p bound v o items
one_of rows p bound v o items None at is_op all = absurd is_op
one_of rows p bound v o items (Some r) at is_op all =
    by_overwrites rows p bound v o items r (overwrites o.deed) refl at is_op.0 is_op.1 all

-- what a commit applies keeps the items to their greater bounds
pub decided_table : (rows : List ItemRow) (p : ℕ) (bound : ℕ → ℕ) (v : Version) (os : List SubOp) (items : Table)
    → AllByRecursion (IsOp rows trees.Strict p) os → TableIn rows p bound items
    → TableIn rows p (bounds_after bound os) (applied_in v os items)
decided_table rows p bound v [] items ops all = table_same rows p bound (bounds_after bound []) items (λ x. omega arith) all
decided_table rows p bound v (o ∷ os) items ops all =
    let first = bound_after bound o.item.0 (magnitude o.deed) in
    let one = one_of rows p bound v o items (slice_get rows o.item.0) refl ops.0 all in
    table_same rows p (bounds_after first os) (bounds_after bound (o ∷ os)) (applied_in v os (overwritten_in v o items)) (λ x. omega arith)
    (decided_table rows p first v os (overwritten_in v o items) ops.1 one)

-- And it can be applied, where each item has room for the version.
abbrev pub HasRoom : Version → Table → Type 0
HasRoom v items = (n : ItemNo) (h : Held) → item_in n items ≡ Some h → has_room v h ≡ true

can_held : (rows : List ItemRow) (bound : ℕ → ℕ) (v : Version) (o : SubOp) (r : ItemRow) (found : Option Held)
    → deed_fits trees.Strict r.kind o.deed ≡ true → overwrites o.deed ≡ true → ((h : Held) → found ≡ Some h → has_room v h ≡ true)
    → ItemIn r.kind (bound o.item.0) found → bound o.item.0 + magnitude o.deed ≤ MOST_AMOUNT
    → can_overwrite v o.deed found ≡ true
can_held rows bound v o r None fit over room ok most = absurd ok
can_held rows bound v o r (Some []) fit over room ok most = absurd ok
can_held rows bound v o r (Some (x ∷ xs)) fit over room ok most =
    and_from (has_room v (x ∷ xs)) (sees_fit o.deed (seen v (x ∷ xs))) (room (x ∷ xs) refl)
    (may_overwrite_value r.kind o.deed (bound o.item.0) (seen_after x.1 v xs) fit over
    (seen_value r.kind (bound o.item.0) v x.1 xs ok.0 ok.1) most)

can_by : (rows : List ItemRow) (p : ℕ) (bound : ℕ → ℕ) (v : Version) (o : SubOp) (items : Table) (found : Option ItemRow) (over : Bool)
    → overwrites o.deed ≡ over → slice_get rows o.item.0 ≡ found → OpAt trees.Strict p o found → HasRoom v items
    → ((r : ItemRow) → slice_get rows o.item.0 ≡ Some r → bound o.item.0 + magnitude o.deed ≤ MOST_AMOUNT)
    → TableIn rows p bound items → can_apply_op v o items ≡ true
can_by rows p bound v o items None over is at is_op room most all = absurd is_op
can_by rows p bound v o items (Some r) false is at is_op room most all = rw is refl
can_by rows p bound v o items (Some r) true is at is_op room most all =
    rw is (can_held rows bound v o r (item_in o.item items) is_op.1 is (λ h here. room o.item h here) (all o.item.0 r at is_op.0) (most r at))

pub can_decide_ops : (rows : List ItemRow) (p : ℕ) (bound : ℕ → ℕ) (v : Version) (os : List SubOp) (items : Table)
    → AllByRecursion (IsOp rows trees.Strict p) os → HasRoom v items
    → ((x : ℕ) (r : ItemRow) → slice_get rows x ≡ Some r → bound x + ops_load x os ≤ MOST_AMOUNT)
    → TableIn rows p bound items → can_apply v os items ≡ true
can_decide_ops rows p bound v [] items ops room most all = refl
can_decide_ops rows p bound v (o ∷ os) items ops room most all =
    and_from (can_apply_op v o items) (can_apply v os items)
    (can_by rows p bound v o items (slice_get rows o.item.0) (overwrites o.deed) refl refl ops.0 room
    (λ r at. omega (arith, most o.item.0 r at, own o.item.0 (magnitude o.deed))) all)
    (can_decide_ops rows p bound v os items ops.1 room (λ x r at. omega (arith, most x r at)) all) where
      own : (n m : ℕ) → (if n == n then m else 0) ≡ m
      own n m = let test : (n == n) ≡ true = grind (arith, nat_tests) in rw test refl
