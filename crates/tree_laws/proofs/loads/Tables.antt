-- The items of a node keep to their bounds, and operations that fit may be applied to them.
use Rattle.std.proofs.Common.{◌≡◌, zero, suc, ◌<◌, ℕ, ◌+◌, ◌≤◌, ◌==◌, Bool, true, false, List, [], ◌∷◌, refl, sym, ap, subst, ◌∙◌, arith, Option, Some, None}
use Rattle.std.specs.Prelude.{if◌then◌else◌, slice_get, unsigned_abs}
use Rattle.std.specs.List.{AllByRecursion}
use Rattle.std.proofs.lemmas.Bool.Decides.{nat_tests}
use Rattle.std.proofs.lemmas.Bool.{and_from, eqb-false}
use Rattle.tv_base.specs.declared.numbers.ItemNo.{ItemNo}
use Rattle.tv_base.specs.declared.numbers.Version.{Version}
use Rattle.commute_ops.specs.Ops.{value_start}
use Rattle.commute_ops.specs.declared.kinds.Kind.{Kind}
use Rattle.commute_ops.specs.declared.kinds.Op.{Op}
use Rattle.commute_ops.specs.declared.kinds.TheConstants.{MOST_AMOUNT}
use Rattle.item_versions.specs.Item.{Held, collected, touched}
use Rattle.item_versions.specs.Table.{Table, item_in, replaced, touched_in, may_touch_in}
use Rattle.tx_trees.specs.Valid.{deed_fits, op_fits, op_magnitude, magnitude, ops_load, OpAt, IsOp}
use Rattle.tx_trees.specs.declared.parts.Deed.{Deed}
use Rattle.tx_trees.specs.declared.parts.Deed.TheVariants.{Apply, Get, Set, Draw}
use Rattle.tx_trees.specs.declared.parts.ItemRow.{ItemRow}
use Rattle.tx_trees.specs.declared.parts.SubOp.{SubOp}
use Rattle.tx_trees.specs.declared.parts.TreeKind.TheVariants as trees
use Rattle.world_model.specs.Node.{items_at}
use Rattle.item_versions.specs.Collecting.{collected_all}
use Rattle.tree_laws.proofs.loads.Values.{HeldIn, collected_held, held_more, held_may, touched_held, start_value, value_more}
use Rattle.world_model.specs.Updates.{may_make, table_after_deed, can_touch, table_after_ops}

-- the item is there, and its values keep to the bound
abbrev pub ItemIn : Kind → ℕ → Option Held → Type 0
ItemIn kind b None = ⊥
ItemIn kind b (Some h) = HeldIn kind b h

-- each item of node p is in the table, and keeps to its bound
abbrev pub TableIn : List ItemRow → ℕ → (ℕ → ℕ) → Table → Type 0
TableIn rows p bound items =
    (x : ℕ) (r : ItemRow) → slice_get rows x ≡ Some r → r.node.0 ≡ p → ItemIn r.kind (bound x) (item_in (record { 0 = x }) items)

-- Looking up what was put in place.
replaced_same_at : (n : ItemNo) (h g : Held) (e : ItemNo × Held) (es : Table) (test : Bool) → (e.0.0 == n.0) ≡ test
    → item_in n (e ∷ es) ≡ Some g
    → (item_in n es ≡ Some g → item_in n (replaced n h es) ≡ Some h) → item_in n (replaced n h (e ∷ es)) ≡ Some h
replaced_same_at n h g e es true is at rest = let same : (n.0 == n.0) ≡ true = grind (arith, nat_tests) in rw is (rw same refl)
replaced_same_at n h g e es false is at rest = rw is (rw is (rest (rw is at at)))

pub replaced_same : (n : ItemNo) (h g : Held) (t : Table) → item_in n t ≡ Some g → item_in n (replaced n h t) ≡ Some h
replaced_same n h g [] at = absurd (cc at)
replaced_same n h g (e ∷ es) at = replaced_same_at n h g e es (e.0.0 == n.0) refl at (replaced_same n h g es)

replaced_other_at : (n m : ItemNo) (h : Held) (e : ItemNo × Held) (es : Table) → (n.0 == m.0) ≡ false → (test : Bool)
    → (e.0.0 == n.0) ≡ test
    → item_in m (replaced n h es) ≡ item_in m es → item_in m (replaced n h (e ∷ es)) ≡ item_in m (e ∷ es)
replaced_other_at n m h e es other true is rest =
    let differs : (e.0.0 == m.0) ≡ false = grind (arith, nat_tests) in rw is (rw other (rw differs refl))
replaced_other_at n m h e es other false is rest = rw is (ap (λ (o : Option Held). if e.0.0 == m.0 then Some e.1 else o) rest)

pub replaced_other : (n m : ItemNo) (h : Held) (t : Table) → (n.0 == m.0) ≡ false → item_in m (replaced n h t) ≡ item_in m t
replaced_other n m h [] other = refl
replaced_other n m h (e ∷ es) other = replaced_other_at n m h e es other (e.0.0 == n.0) refl (replaced_other n m h es other)

-- One operation.

-- the bounds after an operation of this magnitude on an item
abbrev pub bound_after : (ℕ → ℕ) → ℕ → ℕ → ℕ → ℕ
bound_after bound n m x = bound x + (if n == x then m else 0)

same_row : (x y : ItemRow) → Some x ≡ Some y → x ≡ y
same_row x y is = cc is

put_same : (n : ItemNo) (items : Table) (g h : Held) (kind : Kind) (b x : ℕ) → n.0 ≡ x → item_in n items ≡ Some g → HeldIn kind b h
    → ItemIn kind b (item_in (record { 0 = x }) (replaced n h items))
put_same n items g h kind b x eq here ok =
    subst (λ (y : ℕ). ItemIn kind b (item_in (record { 0 = y }) (replaced n h items))) eq (rw (replaced_same n h g items here) ok)

pub put_by : (rows : List ItemRow) (p : ℕ) (bound : ℕ → ℕ) (n : ItemNo) (m : ℕ) (items : Table) (g h : Held) (r : ItemRow)
    → slice_get rows n.0 ≡ Some r → item_in n items ≡ Some g
    → HeldIn r.kind (bound n.0 + m) h → TableIn rows p bound items
    → (x : ℕ) (q : ItemRow) → slice_get rows x ≡ Some q → q.node.0 ≡ p → (test : Bool) → (n.0 == x) ≡ test
    → ItemIn q.kind (bound_after bound n.0 m x) (item_in (record { 0 = x }) (replaced n h items))
put_by rows p bound n m items g h r at here ok all x q qat node true is =
    let eq : n.0 ≡ x = grind (arith, nat_tests) in
    let rq : r ≡ q = same_row r q (sym at ∙ ap (λ (y : ℕ). slice_get rows y) eq ∙ qat) in
    let good : HeldIn q.kind (bound x + m) h = subst (λ (k : ItemRow). HeldIn k.kind (bound x + m) h) rq (subst (λ (y : ℕ). HeldIn r.kind (bound y + m) h) eq ok) in
    rw is (put_same n items g h q.kind (bound x + m) x eq here good)
put_by rows p bound n m items g h r at here ok all x q qat node false is =
    let none : bound x ≡ bound x + 0 = omega arith in
    rw is (rw (replaced_other n (record { 0 = x }) h items is) (subst (λ (b : ℕ). ItemIn q.kind b (item_in (record { 0 = x }) items)) none (all x q qat node)))

-- an operation that fits keeps the items to their bounds with it
op_there : (rows : List ItemRow) (p : ℕ) (bound : ℕ → ℕ) (v : Version) (n : ItemNo) (op : Op) (items : Table) (r : ItemRow) (found : Option Held)
    → slice_get rows n.0 ≡ Some r → op_fits r.kind op ≡ true → item_in n items ≡ found → ItemIn r.kind (bound n.0) found
    → TableIn rows p bound items → TableIn rows p (bound_after bound n.0 (op_magnitude op)) (touched_in v n op items)
op_there rows p bound v n op items r None at fit here ok all = absurd ok
op_there rows p bound v n op items r (Some h) at fit here ok all =
    let is : touched_in v n op items ≡ replaced n (touched v op h) items = rw here refl in
    rw is (λ x q qat node. put_by rows p bound n (op_magnitude op) items h (touched v op h) r at here (touched_held r.kind op (bound n.0) v h fit ok) all x q qat node (n.0 == x) refl)

deed_table : (rows : List ItemRow) (p : ℕ) (bound : ℕ → ℕ) (v : Version) (n : ItemNo) (deed : Deed) (items : Table) (r : ItemRow)
    → slice_get rows n.0 ≡ Some r → r.node.0 ≡ p → deed_fits trees.Update r.kind deed ≡ true → TableIn rows p bound items
    → TableIn rows p (bound_after bound n.0 (magnitude deed)) (table_after_deed v n deed items)
deed_table rows p bound v n (Apply op) items r at node fit all =
    op_there rows p bound v n op items r (item_in n items) at fit refl (all n.0 r at node) all
deed_table rows p bound v n Get items r at node fit all = absurd (cc fit)
deed_table rows p bound v n (Set a) items r at node fit all = absurd (cc fit)
deed_table rows p bound v n (Draw a) items r at node fit all = absurd (cc fit)

op_table : (rows : List ItemRow) (p : ℕ) (bound : ℕ → ℕ) (v : Version) (o : SubOp) (items : Table) (found : Option ItemRow)
    → slice_get rows o.item.0 ≡ found → OpAt trees.Update p o found → TableIn rows p bound items
    → TableIn rows p (bound_after bound o.item.0 (magnitude o.deed)) (table_after_deed v o.item o.deed items)
op_table rows p bound v o items None at is_op all = absurd is_op
op_table rows p bound v o items (Some r) at is_op all = deed_table rows p bound v o.item o.deed items r at is_op.0 is_op.1 all

-- and may be made, where that is within what is allowed
op_may : (v : Version) (n : ItemNo) (op : Op) (items : Table) (kind : Kind) (b : ℕ) (found : Option Held) → op_fits kind op ≡ true
    → item_in n items ≡ found → ItemIn kind b found → b + op_magnitude op ≤ MOST_AMOUNT → may_touch_in v n op items ≡ true
op_may v n op items kind b None fit here ok most = absurd ok
op_may v n op items kind b (Some h) fit here ok most = rw (here, may_touch_in) (held_may kind op b v h fit most ok)

deed_may : (v : Version) (n : ItemNo) (deed : Deed) (items : Table) (kind : Kind) (b : ℕ) → deed_fits trees.Update kind deed ≡ true
    → ItemIn kind b (item_in n items) → b + magnitude deed ≤ MOST_AMOUNT → may_make v n deed items ≡ true
deed_may v n (Apply op) items kind b fit ok most = op_may v n op items kind b (item_in n items) fit refl ok most
deed_may v n Get items kind b fit ok most = absurd (cc fit)
deed_may v n (Set a) items kind b fit ok most = absurd (cc fit)
deed_may v n (Draw a) items kind b fit ok most = absurd (cc fit)

may_by : (rows : List ItemRow) (p : ℕ) (bound : ℕ → ℕ) (v : Version) (o : SubOp) (items : Table) (found : Option ItemRow)
    → slice_get rows o.item.0 ≡ found → OpAt trees.Update p o found → bound o.item.0 + magnitude o.deed ≤ MOST_AMOUNT
    → TableIn rows p bound items → may_make v o.item o.deed items ≡ true
may_by rows p bound v o items None at is_op most all = absurd is_op
may_by rows p bound v o items (Some r) at is_op most all =
    deed_may v o.item o.deed items r.kind (bound o.item.0) is_op.1 (all o.item.0 r at is_op.0) most

-- Operations in order.

-- the bounds after these operations
abbrev pub bounds_after : (ℕ → ℕ) → List SubOp → ℕ → ℕ
bounds_after bound os x = bound x + ops_load x os

item_more : (kind : Kind) (b c : ℕ) (found : Option Held) → b ≤ c → ItemIn kind b found → ItemIn kind c found
item_more kind b c None le ok = ok
item_more kind b c (Some h) le ok = held_more kind b c h le ok

-- greater bounds
pub table_more : (rows : List ItemRow) (p : ℕ) (a b : ℕ → ℕ) (items : Table)
    → ((x : ℕ) (r : ItemRow) → slice_get rows x ≡ Some r → a x ≤ b x) → TableIn rows p a items → TableIn rows p b items
table_more rows p a b items more all =
    λ x r at node. item_more r.kind (a x) (b x) (item_in (record { 0 = x }) items) (more x r at) (all x r at node)

-- equal bounds
pub table_same : (rows : List ItemRow) (p : ℕ) (a b : ℕ → ℕ) (items : Table) → ((x : ℕ) → a x ≡ b x) → TableIn rows p a items
    → TableIn rows p b items
table_same rows p a b items same all =
    λ x r at node. subst (λ (n : ℕ). ItemIn r.kind n (item_in (record { 0 = x }) items)) (same x) (all x r at node)

here_load : (n x m : ℕ) → x ≡ n → (if n == x then m else 0) ≡ m
here_load n x m is = let test : (n == x) ≡ true = grind (arith, nat_tests) in rw test refl

first_load : (rows : List ItemRow) (p : ℕ) (bound : ℕ → ℕ) (o : SubOp) (os : List SubOp) (found : Option ItemRow)
    → slice_get rows o.item.0 ≡ found → OpAt trees.Update p o found
    → ((x : ℕ) (r : ItemRow) → slice_get rows x ≡ Some r → bound x + ops_load x (o ∷ os) ≤ MOST_AMOUNT)
    → bound o.item.0 + magnitude o.deed ≤ MOST_AMOUNT
first_load rows p bound o os None at is_op most = absurd is_op
first_load rows p bound o os (Some r) at is_op most = omega (arith, most o.item.0 r at, here_load o.item.0 o.item.0 (magnitude o.deed) refl)

-- operations that fit keep the items to their bounds with them
pub ops_table : (rows : List ItemRow) (p : ℕ) (bound : ℕ → ℕ) (v : Version) (os : List SubOp) (items : Table)
    → AllByRecursion (IsOp rows trees.Update p) os → TableIn rows p bound items
    → TableIn rows p (bounds_after bound os) (table_after_ops v os items)
ops_table rows p bound v [] items ops all = table_same rows p bound (bounds_after bound []) items (λ x. omega arith) all
ops_table rows p bound v (o ∷ os) items ops all =
    let first = bound_after bound o.item.0 (magnitude o.deed) in
    let now = table_after_deed v o.item o.deed items in
    table_same rows p (bounds_after first os) (bounds_after bound (o ∷ os)) (table_after_ops v os now) (λ x. omega arith)
    (ops_table rows p first v os now ops.1 (op_table rows p bound v o items (slice_get rows o.item.0) refl ops.0 all))

-- and may all be made, where they keep within what is allowed
ops_may : (rows : List ItemRow) (p : ℕ) (bound : ℕ → ℕ) (v : Version) (os : List SubOp) (items : Table)
    → AllByRecursion (IsOp rows trees.Update p) os
    → ((x : ℕ) (r : ItemRow) → slice_get rows x ≡ Some r → bound x + ops_load x os ≤ MOST_AMOUNT)
    → TableIn rows p bound items → can_touch v os items ≡ true
ops_may rows p bound v [] items ops most all = refl
ops_may rows p bound v (o ∷ os) items ops most all =
    let found = slice_get rows o.item.0 in
    let first = bound_after bound o.item.0 (magnitude o.deed) in
    let now = table_after_deed v o.item o.deed items in
    and_from (may_make v o.item o.deed items) (can_touch v os now)
    (may_by rows p bound v o items found refl ops.0 (first_load rows p bound o os found refl ops.0 most) all)
    (ops_may rows p first v os now ops.1 (λ x r at. omega (arith, most x r at)) (op_table rows p bound v o items found refl ops.0 all))

pub touched_table : (rows : List ItemRow) (p : ℕ) (bound : ℕ → ℕ) (v : Version) (os : List SubOp) (items : Table)
    → AllByRecursion (IsOp rows trees.Update p) os
    → ((x : ℕ) (r : ItemRow) → slice_get rows x ≡ Some r → bound x + ops_load x os ≤ MOST_AMOUNT)
    → TableIn rows p bound items
    → (can_touch v os items ≡ true) × TableIn rows p (bounds_after bound os) (table_after_ops v os items)
touched_table rows p bound v os items ops most all = (ops_may rows p bound v os items ops most all, ops_table rows p bound v os items ops all)

-- At the start.
start_same_at : (p i x : ℕ) (bound : ℕ → ℕ) (r q : ItemRow) (rows : List ItemRow) → r ≡ q → q.node.0 ≡ p → i ≡ x
    → unsigned_abs q.initial ≤ bound x
    → (test : Bool) → (r.node.0 == p) ≡ test → ItemIn q.kind (bound x) (item_in (record { 0 = x }) (items_at p i (r ∷ rows)))
start_same_at p i x bound r q rows rq node ix most true is =
    let here : (i == x) ≡ true = grind (arith, nat_tests) in
    let good : HeldIn q.kind (bound x) ((record { 0 = 0 }, value_start q.kind q.initial) ∷ []) = (value_more q.kind (unsigned_abs q.initial) (bound x) (value_start q.kind q.initial) most (start_value q.kind q.initial), tt) in
    rw is (rw here (subst (λ (z : ItemRow). HeldIn q.kind (bound x) ((record { 0 = 0 }, value_start z.kind z.initial) ∷ [])) (sym rq) good))
start_same_at p i x bound r q rows rq node ix most false is =
    let at : r.node.0 ≡ p = ap (λ (z : ItemRow). z.node.0) rq ∙ node in
    absurd (omega (arith, eqb-false r.node.0 p is))

start_later_at : (p i x : ℕ) (r : ItemRow) (rows : List ItemRow) → i < x → (test : Bool) → (r.node.0 == p) ≡ test
    → item_in (record { 0 = x }) (items_at p i (r ∷ rows)) ≡ item_in (record { 0 = x }) (items_at p (i + 1) rows)
start_later_at p i x r rows lt true is = let differs : (i == x) ≡ false = grind (arith, nat_tests) in rw is (rw differs refl)
start_later_at p i x r rows lt false is = rw is refl

start_from : (p i x n : ℕ) (bound : ℕ → ℕ) (q : ItemRow) (rows : List ItemRow) → slice_get rows n ≡ Some q → q.node.0 ≡ p → x ≡ i + n
    → unsigned_abs q.initial ≤ bound x
    → ItemIn q.kind (bound x) (item_in (record { 0 = x }) (items_at p i rows))
start_from p i x n bound q [] at node is most = absurd (cc at)
start_from p i x zero bound q (r ∷ rows) at node is most =
    start_same_at p i x bound r q rows (cc at) node (omega arith) most (r.node.0 == p) refl
start_from p i x (suc n) bound q (r ∷ rows) at node is most =
    rw (start_later_at p i x r rows (omega arith) (r.node.0 == p) refl) (start_from p (i + 1) x n bound q rows at node (omega arith) most)

-- each item of a node has its initial value
pub start_table : (rows : List ItemRow) (p : ℕ) (bound : ℕ → ℕ)
    → ((x : ℕ) (r : ItemRow) → slice_get rows x ≡ Some r → unsigned_abs r.initial ≤ bound x)
    → TableIn rows p bound (items_at p 0 rows)
start_table rows p bound most = λ x r at node. start_from p 0 x x bound r rows at node (omega arith) (most x r at)

-- A collection.
-- what is held of an item, where it is there, goes through one
abbrev pub collected_of : Version → Option Held → Option Held
collected_of f None = None
collected_of f (Some h) = Some (collected f h)

collected_at : (f : Version) (n : ItemNo) (e : ItemNo × Held) (es : Table) (test : Bool) → (e.0.0 == n.0) ≡ test
    → item_in n (collected_all f es) ≡ collected_of f (item_in n es)
    → item_in n (collected_all f (e ∷ es)) ≡ collected_of f (item_in n (e ∷ es))
collected_at f n e es true is rest = rw is refl
collected_at f n e es false is rest = rw is rest

-- what is there of an item is collected
pub item_collected : (f : Version) (n : ItemNo) (t : Table) → item_in n (collected_all f t) ≡ collected_of f (item_in n t)
item_collected f n [] = refl
item_collected f n (e ∷ es) = collected_at f n e es (e.0.0 == n.0) refl (item_collected f n es)

collected_item : (kind : Kind) (b : ℕ) (f : Version) (o : Option Held) → ItemIn kind b o → ItemIn kind b (collected_of f o)
collected_item kind b f None ok = absurd ok
collected_item kind b f (Some h) ok = collected_held kind b f h ok

-- a table whose items are all collected keeps to its bounds
pub collected_table : (rows : List ItemRow) (p : ℕ) (bound : ℕ → ℕ) (f : Version) (items : Table) → TableIn rows p bound items
    → TableIn rows p bound (collected_all f items)
collected_table rows p bound f items ok =
    λ x r at here. rw (item_collected f (record { 0 = x }) items) (collected_item r.kind (bound x) f (item_in (record { 0 = x }) items) (ok x r at here))
