-- What a valid script says of the operations on an item.
use Rattle.std.proofs.Common.{◌≡◌, ◌⊎◌, inl, inr, ◌==◌, ◌&&◌, ℕ, zero, suc, ◌+◌, Bool, true, false, List, [], ◌∷◌, ◌++◌, refl, sym, ap, subst, ◌∙◌, Option, Some, None}
use Rattle.std.specs.Prelude.{◌||◌, map, nat_eq, slice_get}
use Rattle.std.specs.List.{AllByRecursion, IsDistinct}
use Rattle.std.proofs.lemmas.Bool.{eqb-true, false_from_ne_true, or_cases, or_left, or_parts, or_right}
use Rattle.std.proofs.lemmas.List.{map-append}
use Rattle.tv_base.proofs.Truths.{left_true, same_test}
use Rattle.script_parts.proofs.SubsOf.{all_at, found_subs}
use Rattle.script_parts.specs.Counts.{ops_in}
use Rattle.script_parts.proofs.StrictKind.{strict_kind}
use Rattle.script_parts.specs.ScriptData.{ScriptData, is_strict, is_update, node_of, ops_of, sub_at, subs_at, updates}
use Rattle.script_parts.specs.Valid.{AreSubs, IsOp, IsTree, IsValid, OpAt, deed_fits, touched_items}
use Rattle.script_parts.specs.declared.parts.Deed.{Deed}
use Rattle.script_parts.specs.declared.parts.Deed.TheVariants.{Apply, Get, Set, Draw}
use Rattle.script_parts.specs.declared.parts.ItemRow.{ItemRow}
use Rattle.script_parts.specs.declared.parts.Sub.{Sub}
use Rattle.script_parts.specs.declared.parts.SubOp.{SubOp}
use Rattle.script_parts.specs.declared.parts.Tree.{Tree}
use Rattle.script_parts.specs.declared.parts.TreeKind.{TreeKind}
use Rattle.script_parts.specs.declared.parts.TreeKind.TheVariants.{Update, Read, Strict}
use Rattle.commute_ops.specs.declared.kinds.Kind.{Kind}
use Rattle.commute_ops.specs.declared.kinds.Kind.TheVariants.{Sum as SumKind, Top as TopKind, Bag as BagKind}
use Rattle.board_rules.specs.Histories.{is_strict_tree}
use Rattle.nc_locks.specs.Modes.{modes_conflict}
use Rattle.nc_locks.specs.declared.modes.Mode.TheVariants.{Mark}
use Rattle.script_parts.specs.Wants.{mode_wanted}
use Rattle.board_rules.specs.Worth.{changes, ops_change, subs_change}
use Rattle.board_rules.proofs.Once.{AreOnce, clash, has, has_append, numbers_equal, same_number}
use Rattle.board_rules.proofs.Precedence.{change}
use Rattle.board_rules.proofs.Rules.{IsItemAt}
use Rattle.board_rules.proofs.TreeSubs.{found_ops}

-- an operation of subtransaction k of tree t fits its tree's kind and its item
record OpHere (s : ScriptData) (t k : ℕ) (o : SubOp) : Type 0 where
  tree : Tree
  at : slice_get s.trees t ≡ Some tree
  sub : Sub
  here : sub_at s t k ≡ Some sub
  fits : IsOp s.items tree.kind sub.node.0 o

pub ops_of_subs : (nodes : ℕ) (items : List ItemRow) (kind : TreeKind) (i k : ℕ) (subs : List Sub) (sub : Sub)
    → AreSubs nodes items kind i subs → slice_get subs k ≡ Some sub → AllByRecursion (IsOp items kind sub.node.0) sub.ops
ops_of_subs nodes items kind i k [] sub all is = absurd (cc is)
ops_of_subs nodes items kind i zero (y ∷ subs) sub all is =
    let same : y ≡ sub = cc is in subst (λ (z : Sub). AllByRecursion (IsOp items kind z.node.0) z.ops) same all.0.ops
ops_of_subs nodes items kind i (suc k) (y ∷ subs) sub all is = ops_of_subs nodes items kind (i + 1) k subs sub all.1 is

op_here : (s : ScriptData) (t k i : ℕ) (o : SubOp) → IsValid s → slice_get (ops_of s t k) i ≡ Some o → OpHere s t k o
op_here s t k i o valid is = by (slice_get s.trees t) refl (sub_at s t k) refl where
  by : (tree : Option Tree) → slice_get s.trees t ≡ tree → (sub : Option Sub) → sub_at s t k ≡ sub → OpHere s t k o
  by tree at None here =
      let none : ops_of s t k ≡ [] = ap (λ (f : Option Sub). elim f [ Some sub ↦ sub.ops | None ↦ [] ]) here in
      absurd (cc (sym (ap (λ (os : List SubOp). slice_get os i) none) ∙ is))
  by None at (Some sub) here =
      let none : subs_at s t ≡ [] = ap (λ (f : Option Tree). elim f [ Some tree ↦ tree.subs | None ↦ [] ]) at in
      absurd (cc (sym (ap (λ (ks : List Sub). slice_get ks k) none) ∙ here))
  by (Some tree) at (Some sub) here =
      let subs = (all_at (IsTree s.nodes s.items) s.trees t tree valid.trees at).subs in
      let there : slice_get tree.subs k ≡ Some sub = sym (ap (λ (ks : List Sub). slice_get ks k) (found_subs s t tree at)) ∙ here in
      record {
        tree = tree;
        at = at;
        sub = sub;
        here = here;
        fits = all_at (IsOp s.items tree.kind sub.node.0) sub.ops i o (ops_of_subs s.nodes s.items tree.kind 0 k tree.subs sub subs there)
            (sym (ap (λ (os : List SubOp). slice_get os i) (found_ops s t k sub here)) ∙ is);
      }

-- What fits a kind of tree.
fits_update : (kind : TreeKind) (item : Kind) (d : Deed) → is_update kind ≡ true → deed_fits kind item d ≡ true → mode_wanted d ≡ Mark
fits_update Read item d up fits = absurd (cc up)
fits_update Strict item d up fits = absurd (cc up)
fits_update Update item (Apply op) up fits = refl
fits_update Update SumKind Get up fits = absurd (cc fits)
fits_update Update TopKind Get up fits = absurd (cc fits)
fits_update Update BagKind Get up fits = absurd (cc fits)
fits_update Update SumKind (Set n) up fits = absurd (cc fits)
fits_update Update TopKind (Set n) up fits = absurd (cc fits)
fits_update Update BagKind (Set n) up fits = absurd (cc fits)
fits_update Update SumKind (Draw n) up fits = absurd (cc fits)
fits_update Update TopKind (Draw n) up fits = absurd (cc fits)
fits_update Update BagKind (Draw n) up fits = absurd (cc fits)

fits_strict : (kind : TreeKind) (item : Kind) (d : Deed) → is_strict kind ≡ true → deed_fits kind item d ≡ true
    → modes_conflict Mark (mode_wanted d) ≡ true
fits_strict Read item d strict fits = absurd (cc strict)
fits_strict Update item d strict fits = absurd (cc strict)
fits_strict Strict item Get strict fits = refl
fits_strict Strict item (Set n) strict fits = refl
fits_strict Strict item (Draw n) strict fits = refl
fits_strict Strict SumKind (Apply op) strict fits = absurd (cc fits)
fits_strict Strict TopKind (Apply op) strict fits = absurd (cc fits)
fits_strict Strict BagKind (Apply op) strict fits = absurd (cc fits)

kind_of : (test : TreeKind → Bool) (s : ScriptData) (t : ℕ) (tree : Tree) → slice_get s.trees t ≡ Some tree
    → elim (slice_get s.trees t) [ Some tree ↦ test tree.kind | None ↦ false ] ≡ true → test tree.kind ≡ true
kind_of test s t tree at is = sym (ap (λ (f : Option Tree). elim f [ Some tree ↦ test tree.kind | None ↦ false ]) at) ∙ is

op_fits_kind : (kind : TreeKind) (node : ℕ) (o : SubOp) (found : Option ItemRow) → OpAt kind node o found
    → (item : Kind) × (deed_fits kind item o.deed ≡ true)
op_fits_kind kind node o None fits = absurd fits
op_fits_kind kind node o (Some row) fits = (row.kind, fits.1)

pub marks_it : (s : ScriptData) (t k i : ℕ) (o : SubOp) → IsValid s → updates s t ≡ true → slice_get (ops_of s t k) i ≡ Some o
    → mode_wanted o.deed ≡ Mark
marks_it s t k i o valid up is =
    let h = op_here s t k i o valid is in
    let f = op_fits_kind h.tree.kind h.sub.node.0 o (slice_get s.items o.item.0) h.fits in
    fits_update h.tree.kind f.0 o.deed (kind_of is_update s t h.tree h.at up) f.1

pub holds_it : (s : ScriptData) (t k i : ℕ) (o : SubOp) → IsValid s → is_strict_tree s t ≡ true → slice_get (ops_of s t k) i ≡ Some o
    → modes_conflict Mark (mode_wanted o.deed) ≡ true
holds_it s t k i o valid strict is =
    let h = op_here s t k i o valid is in
    let f = op_fits_kind h.tree.kind h.sub.node.0 o (slice_get s.items o.item.0) h.fits in
    fits_strict h.tree.kind f.0 o.deed (kind_of is_strict s t h.tree h.at strict) f.1

-- operations on an item are at its node
fits_node : (kind : TreeKind) (node : ℕ) (o : SubOp) (found : Option ItemRow) (r : ItemRow) → OpAt kind node o found → found ≡ Some r
    → r.node.0 ≡ node
fits_node kind node o None r fits is = absurd fits
fits_node kind node o (Some row) r fits is = let same : row ≡ r = cc is in sym (ap (λ (z : ItemRow). z.node.0) same) ∙ fits.0

-- an operation is at its item's node
pub op_node : (s : ScriptData) (t k i : ℕ) (o : SubOp) (r : ItemRow) → IsValid s → slice_get (ops_of s t k) i ≡ Some o
    → slice_get s.items o.item.0 ≡ Some r → node_of s t k ≡ r.node.0
op_node s t k i o r valid is row =
    let h = op_here s t k i o valid is in
    ap (λ (f : Option Sub). elim f [ Some sub ↦ sub.node.0 | None ↦ s.nodes ]) h.here
    ∙ sym (fits_node h.tree.kind h.sub.node.0 o (slice_get s.items o.item.0) r h.fits row)

-- its item is one of the script's, at its subtransaction's node
pub record ItemThere (s : ScriptData) (t k : ℕ) (o : SubOp) : Type 0 where
  pub row : ItemRow
  pub there : slice_get s.items o.item.0 ≡ Some row
  pub node : node_of s t k ≡ row.node.0

pub op_row : (s : ScriptData) (t k i : ℕ) (o : SubOp) → IsValid s → slice_get (ops_of s t k) i ≡ Some o → ItemThere s t k o
op_row s t k i o valid is = by (slice_get s.items o.item.0) refl (op_here s t k i o valid is) where
  by : (r : Option ItemRow) → slice_get s.items o.item.0 ≡ r → OpHere s t k o → ItemThere s t k o
  by None at h = absurd (subst (OpAt h.tree.kind h.sub.node.0 o) at h.fits)
  by (Some row) at h = record { row = row; there = at; node = op_node s t k i o row valid is at }

at_node : (s : ScriptData) (p x t k : ℕ) (r : ItemRow) → IsValid s → slice_get s.items x ≡ Some r → r.node.0 ≡ p
    → ops_change x (ops_of s t k) ≡ true → node_of s t k ≡ p
at_node s p x t k r valid at node is =
    let c = change x (ops_of s t k) is in
    let row : slice_get s.items c.on.op.item.0 ≡ Some r = ap (slice_get s.items) (eqb-true c.on.op.item.0 x c.on.on) ∙ at in
    op_node s t k c.on.index c.on.op r valid c.on.is row ∙ node

-- A strict tree has one operation on an item, so one subtransaction that changes it.
distinct_once : (xs : List ℕ) → IsDistinct nat_eq xs → AreOnce same_number xs
unfolding IsDistinct
distinct_once [] all = tt
distinct_once (x ∷ xs) all = (none xs all.0, distinct_once xs all.1) where
  none : (ys : List ℕ) → AllByRecursion (λ y. nat_eq x y ≡ false) ys → has same_number x ys ≡ false
  none [] apart = refl
  none (y ∷ ys) apart =
      false_from_ne_true ((y == x) || has same_number x ys) (λ is.
      one (or_cases (y == x) (has same_number x ys) is) apart.0 (none ys apart.1)) where
        one : ((y == x) ≡ true) ⊎ (has same_number x ys ≡ true) → nat_eq x y ≡ false → has same_number x ys ≡ false → ⊥
        one (inl same) other rest = clash (nat_eq x y) (ap (nat_eq x) (eqb-true y x same) ∙ same_test x) other
        one (inr more) other rest = clash (has same_number x ys) more rest

on_item : (x : ℕ) (os : List SubOp) → ops_change x os ≡ true → has same_number x (map (λ (o : SubOp). o.item.0) os) ≡ true
on_item x [] is = absurd (cc is)
on_item x (o ∷ os) is = by (on_item x os) (or_cases ((o.item.0 == x) && changes o.deed) (ops_change x os) is) where
  by : (ops_change x os ≡ true → has same_number x (map (λ (q : SubOp). q.item.0) os) ≡ true)
      → (((o.item.0 == x) && changes o.deed) ≡ true) ⊎ (ops_change x os ≡ true)
      → ((o.item.0 == x) || has same_number x (map (λ (q : SubOp). q.item.0) os)) ≡ true
  by rest (inl here) =
      or_left (o.item.0 == x) (has same_number x (map (λ (q : SubOp). q.item.0) os)) (left_true (o.item.0 == x) (changes o.deed) here)
  by rest (inr later) = or_right (o.item.0 == x) (has same_number x (map (λ (q : SubOp). q.item.0) os)) (rest later)

rest_once : (xs ys : List ℕ) → AreOnce same_number (xs ++ ys) → AreOnce same_number ys
rest_once [] ys once = once
rest_once (x ∷ xs) ys once = rest_once xs ys once.1

not_twice : (z : ℕ) (xs ys : List ℕ) → AreOnce same_number (xs ++ ys) → has same_number z xs ≡ true → has same_number z ys ≡ false
not_twice z [] ys once is = absurd (cc is)
not_twice z (x ∷ xs) ys once is = by (not_twice z xs ys once.1) (or_cases (x == z) (has same_number z xs) is) where
  by : (has same_number z xs ≡ true → has same_number z ys ≡ false) → ((x == z) ≡ true) ⊎ (has same_number z xs ≡ true) → has same_number z ys ≡ false
  by rest (inl here) =
      let parts = or_parts (has same_number x xs) (has same_number x ys) (sym (has_append same_number numbers_equal x xs ys) ∙ once.0) in
      sym (ap (λ (w : ℕ). has same_number w ys) (eqb-true x z here)) ∙ parts.1
  by rest (inr later) = rest later

later_on : (x k : ℕ) (ks : List Sub) (sub : Sub) → slice_get ks k ≡ Some sub → ops_change x sub.ops ≡ true
    → has same_number x (touched_items ks) ≡ true
later_on x k [] sub is on = absurd (cc is)
later_on x zero (y ∷ ks) sub is on =
    let same : y ≡ sub = cc is in
    ap (has same_number x) (map-append (λ (o : SubOp). o.item.0) y.ops (ops_in ks))
    ∙ has_append same_number numbers_equal x (map (λ (o : SubOp). o.item.0) y.ops) (touched_items ks)
    ∙ or_left (has same_number x (map (λ (o : SubOp). o.item.0) y.ops)) (has same_number x (touched_items ks))
    (on_item x y.ops (ap (λ (z : Sub). ops_change x z.ops) same ∙ on))
later_on x (suc k) (y ∷ ks) sub is on =
    ap (has same_number x) (map-append (λ (o : SubOp). o.item.0) y.ops (ops_in ks))
    ∙ has_append same_number numbers_equal x (map (λ (o : SubOp). o.item.0) y.ops) (touched_items ks)
    ∙ or_right (has same_number x (map (λ (o : SubOp). o.item.0) y.ops)) (has same_number x (touched_items ks)) (later_on x k ks sub is on)

one_sub : (x j k : ℕ) (ks : List Sub) (a b : Sub) → AreOnce same_number (touched_items ks) → slice_get ks j ≡ Some a → slice_get ks k ≡ Some b
    → ops_change x a.ops ≡ true → ops_change x b.ops ≡ true → j ≡ k
one_sub x j k [] a b once one two on_a on_b = absurd (cc one)
one_sub x zero zero (y ∷ ks) a b once one two on_a on_b = refl
one_sub x zero (suc k) (y ∷ ks) a b once one two on_a on_b =
    let same : y ≡ a = cc one in
    let parts = subst (AreOnce same_number) (map-append (λ (o : SubOp). o.item.0) y.ops (ops_in ks)) once in
    clash (has same_number x (touched_items ks)) (later_on x k ks b two on_b)
    (not_twice x (map (λ (o : SubOp). o.item.0) y.ops) (touched_items ks) parts (on_item x y.ops (ap (λ (z : Sub). ops_change x z.ops) same ∙ on_a)))
one_sub x (suc j) zero (y ∷ ks) a b once one two on_a on_b =
    let same : y ≡ b = cc two in
    let parts = subst (AreOnce same_number) (map-append (λ (o : SubOp). o.item.0) y.ops (ops_in ks)) once in
    clash (has same_number x (touched_items ks)) (later_on x j ks a one on_a)
    (not_twice x (map (λ (o : SubOp). o.item.0) y.ops) (touched_items ks) parts (on_item x y.ops (ap (λ (z : Sub). ops_change x z.ops) same ∙ on_b)))
one_sub x (suc j) (suc k) (y ∷ ks) a b once one two on_a on_b =
    let parts = subst (AreOnce same_number) (map-append (λ (o : SubOp). o.item.0) y.ops (ops_in ks)) once in
    ap suc (one_sub x j k ks a b (rest_once (map (λ (o : SubOp). o.item.0) y.ops) (touched_items ks) parts) one two on_a on_b)

once_changed : (s : ScriptData) (x t j k : ℕ) → IsValid s → is_strict_tree s t ≡ true → ops_change x (ops_of s t j) ≡ true
    → ops_change x (ops_of s t k) ≡ true → j ≡ k
once_changed s x t j k valid strict on_j on_k =
    let c = change x (ops_of s t j) on_j in
    let d = change x (ops_of s t k) on_k in
    let a = op_here s t j c.on.index c.on.op valid c.on.is in
    let b = op_here s t k d.on.index d.on.op valid d.on.is in
    let tree = all_at (IsTree s.nodes s.items) s.trees t a.tree valid.trees a.at in
    let once = distinct_once (touched_items a.tree.subs) (tree.once (strict_kind a.tree.kind (kind_of is_strict s t a.tree a.at strict))) in
    let subs = found_subs s t a.tree a.at in
    one_sub x j k a.tree.subs a.sub b.sub once
    (sym (ap (λ (ks : List Sub). slice_get ks j) subs) ∙ a.here) (sym (ap (λ (ks : List Sub). slice_get ks k) subs) ∙ b.here)
    (sym (ap (ops_change x) (found_ops s t j a.sub a.here)) ∙ on_j) (sym (ap (ops_change x) (found_ops s t k b.sub b.here)) ∙ on_k)

pub item_at : (s : ScriptData) (p x : ℕ) (r : ItemRow) → IsValid s → slice_get s.items x ≡ Some r → r.node.0 ≡ p → IsItemAt s p x
item_at s p x r valid at node = record {
  placed = λ t k is. at_node s p x t k r valid at node is;
  once = λ t j k strict one two. once_changed s x t j k valid strict one two;
  marks = λ t k i o up is. marks_it s t k i o valid up is;
  strict = λ t k i o strict is. holds_it s t k i o valid strict is;
}

-- a tree of which one subtransaction changes the item changes it
pub changed_in : (x j : ℕ) (subs : List Sub) (sub : Sub) → slice_get subs j ≡ Some sub → ops_change x sub.ops ≡ true → subs_change x subs ≡ true
changed_in x j [] sub at is = absurd (cc at)
changed_in x zero (y ∷ subs) sub at is =
    let same : y ≡ sub = cc at in or_left (ops_change x y.ops) (subs_change x subs) (ap (λ (z : Sub). ops_change x z.ops) same ∙ is)
changed_in x (suc j) (y ∷ subs) sub at is = or_right (ops_change x y.ops) (subs_change x subs) (changed_in x j subs sub at is)
