-- A script stays valid when a record that meets no condition of refusal is added.
use Rattle.std.proofs.Common.{◌≡◌, ◌<◌, ◌≤◌, ◌+◌, ◌*◌, ℕ, Bool, true, false, List, [], ◌∷◌, ◌++◌, length, map, refl, sym, ap, ◌∙◌, subst, arith, length-append, inl, inr, append_assoc}
use Rattle.std.specs.Prelude.{◌&&◌, ◌||◌, not, if◌then◌else◌, IsTrue, Option, Some, None, nat_eq, nat_le, nat_lt, slice_get, unsigned_abs}
use Rattle.std.specs.List.{AllByRecursion, IsDistinct, list_any}
use Rattle.std.specs.Str.{bytes_eq}
use Rattle.std.proofs.lemmas.Bool.{cases_eq, cases_lt, eqb-true, leb-false, ltb-false}
use Rattle.std.proofs.lemmas.Cmp.{nat_eq_equiv, nat_list_eq_equiv}
use Rattle.std.proofs.lemmas.Grind.{common_steps}
use Rattle.std.proofs.lemmas.List.{append-nil, map-append}
use Rattle.std.proofs.lemmas.Option.{slice_get_cases}
use Rattle.tv_base.proofs.ByPlace.{slice_get-old}
use Rattle.tv_base.proofs.Truths.{at_most}
use Rattle.commute_ops.specs.declared.kinds.Kind.{Kind}
use Rattle.commute_ops.specs.declared.kinds.Kind.TheVariants as kinds
use Rattle.commute_ops.specs.declared.kinds.TheConstants.{MOST_AMOUNT}
use Rattle.tv_base.specs.Sums.{one_if}
use Rattle.tv_base.specs.declared.numbers.NodeNo.{NodeNo}
use Rattle.tv_base.specs.declared.numbers.TreeNo.{TreeNo}
use Rattle.script_parts.specs.Adding.{are_many, are_spread, has_no_op_left, has_no_sub_left, has_no_tree_left, has_touched, item_kind_at, last_count, last_kind, last_node, last_of, last_subs, node_at, on_last, on_last_sub, push_op, push_sub, rooted, touch, upgraded, with_item, with_op, with_row, with_sub, with_tree}
use Rattle.script_parts.specs.Amounts.{magnitude}
use Rattle.script_parts.specs.Counts.{advances_in, all_ops, all_subs, is_lose, loses_in, if_update, one_put, ops_in, ops_puts, strict_trees, subs_puts, trees_puts, update_subs}
use Rattle.script_parts.specs.Forms.{most_amount, most_nodes}
use Rattle.script_parts.specs.inside.Passing.{MayAddItem, MayAddOp, MayAddSub, MayAddTree}
use Rattle.script_parts.specs.Ranges.{draws_negative, is_in_range, may_start, starts_full}
use Rattle.script_parts.specs.ScriptData.{ScriptData, is_strict}
use Rattle.script_parts.specs.Valid.{AreSubs, AreWithin, HasFailed, IsItem, IsOp, IsSub, IsTree, IsValid, MayAllHaveFailed, MayHaveFailed, NamesInOrder, as_written, last_written, OpAt, deed_fits, initial_load, item_names, touched_items, load, ops_load, subs_load, tree_names, trees_load}
use Rattle.script_parts.specs.declared.parts.Deed.{Deed}
use Rattle.script_parts.specs.declared.parts.Form.{Form}
use Rattle.script_parts.specs.declared.parts.Form.TheVariants as forms
use Rattle.script_parts.specs.declared.parts.ItemRow.{ItemRow}
use Rattle.script_parts.specs.declared.parts.ScriptRow.{ScriptRow}
use Rattle.script_parts.specs.declared.parts.ScriptRow.TheVariants as rows
use Rattle.script_parts.specs.declared.parts.Sub.{Sub}
use Rattle.script_parts.specs.declared.parts.SubOp.{SubOp}
use Rattle.script_parts.specs.declared.parts.Tree.{Tree}
use Rattle.script_parts.specs.declared.parts.TreeKind.{TreeKind}
use Rattle.script_parts.specs.declared.parts.TreeKind.TheVariants as trees
use Rattle.script_parts.specs.declared.parts.Written.{Written}
use Rattle.script_parts.proofs.Last.{last_count_is, last_kind_is, last_node_is, last_sub_is, last_subs_is, length-on_last}
use Rattle.script_parts.proofs.Lists.{all-last, all-on_last, all-push, all-weaker, distinct-push, last_of-on_last, last_of-seam, last_some, on_last-seam, or_left, or_right, slice_get-seam, split_last, sum-push}
use Rattle.script_parts.proofs.Named.{any-map, has_item, has_tree}
use Rattle.script_parts.proofs.SubsOf.{most_amount-small, most_nodes-small}
use Rattle.script_parts.proofs.Totals.{all_subs-sum, load_other, load_same, load_total, op_total, put_other, put_same, put_total, strict-op, strict-sub, strict-sum, subs-op, subs-sub, total-op, total-sub, total-tree, update-op, update-sub, update-sum}

-- operations are on items that are there

pub op_within : (items : List ItemRow) (kind : TreeKind) (node : ℕ) (o : SubOp) → IsOp items kind node o → o.item.0 < length items
op_within items kind node o h = elim (slice_get_cases items o.item.0).1 [
  | inl found ↦ found.1
  | inr past ↦ let none : ⊥ = subst (OpAt kind node o) past.1 h in absurd none
]

op-more : (items : List ItemRow) (r : ItemRow) (kind : TreeKind) (node : ℕ) (o : SubOp) → IsOp items kind node o → IsOp (items ++ r ∷ []) kind node o
op-more items r kind node o h = subst (OpAt kind node o) (sym (slice_get-old items (r ∷ []) o.item.0 (op_within items kind node o h))) h

subs-more : (nodes : ℕ) (items : List ItemRow) (r : ItemRow) (kind : TreeKind) (k : ℕ) (ss : List Sub) → AreSubs nodes items kind k ss → AreSubs nodes (items ++ r ∷ []) kind k ss
subs-more nodes items r kind k [] h = tt
subs-more nodes items r kind k (s ∷ ss) h = (
  record {
    root = h.0.root;
    parent = h.0.parent;
    node = h.0.node;
    few = h.0.few;
    ops = all-weaker (IsOp items kind s.node.0) (IsOp (items ++ r ∷ []) kind s.node.0) (op-more items r kind s.node.0) s.ops h.0.ops;
    amounts = h.0.amounts;
  },
  subs-more nodes items r kind (k + 1) ss h.1,
)

tree-more : (nodes : ℕ) (items : List ItemRow) (r : ItemRow) (t : Tree) → IsTree nodes items t → IsTree nodes (items ++ r ∷ []) t
tree-more nodes items r t h = record { root = h.root; few = h.few; subs = subs-more nodes items r t.kind 0 t.subs h.subs; name = h.name; once = h.once }

-- an item that is new has no operation yet

ops_before : (items : List ItemRow) (kind : TreeKind) (node : ℕ) (os : List SubOp) → AllByRecursion (IsOp items kind node) os → (ops_load (length items) os ≡ 0) × (ops_puts (length items) os ≡ 0)
ops_before items kind node [] h = (refl, refl)
ops_before items kind node (o ∷ os) h =
    let lt = op_within items kind node o h.0 in
    let rest = ops_before items kind node os h.1 in
    (omega (arith, load_other o (length items) (λ e. omega arith)), omega (arith, put_other o (length items) (λ e. omega arith)))

subs_before : (nodes : ℕ) (items : List ItemRow) (kind : TreeKind) (k : ℕ) (ss : List Sub) → AreSubs nodes items kind k ss → (subs_load (length items) ss ≡ 0) × (subs_puts (length items) ss ≡ 0)
subs_before nodes items kind k [] h = (refl, refl)
subs_before nodes items kind k (s ∷ ss) h =
    let here = ops_before items kind s.node.0 s.ops h.0.ops in
    let rest = subs_before nodes items kind (k + 1) ss h.1 in
    (omega arith, omega arith)

pub trees_before : (nodes : ℕ) (items : List ItemRow) (ts : List Tree) → AllByRecursion (IsTree nodes items) ts → (trees_load (length items) ts ≡ 0) × (trees_puts (length items) ts ≡ 0)
trees_before nodes items [] h = (refl, refl)
trees_before nodes items (t ∷ ts) h =
    let here = subs_before nodes items t.kind 0 t.subs h.0.subs in
    let rest = trees_before nodes items ts h.1 in
    (omega arith, omega arith)

-- trees that have failed

abbrev Failing : Form → ℕ → List ItemRow → List Tree → List Tree → Type 0
Failing form nodes items front ts = MayAllHaveFailed form nodes items front ts

within-item : (form : Form) (nodes : ℕ) (items : List ItemRow) (r : ItemRow) (ts : List Tree) → AllByRecursion (IsTree nodes items) ts → unsigned_abs r.initial ≤ most_amount form
    → AreWithin form items ts → AreWithin form (items ++ r ∷ []) ts
within-item form nodes items r ts all small h =
    let more : length (items ++ r ∷ []) ≡ length items + 1 = omega (arith, length-append items (r ∷ [])) in
    let idle = trees_before nodes items ts all in
    let fresh : initial_load (slice_get (items ++ r ∷ []) (length items)) ≡ unsigned_abs r.initial = ap initial_load (slice_get-seam items [] r) in
    record {
      subs = h.subs;
      ops = h.ops;
      puts = λ x lt. elim (cases_lt x (length items)) [
        | inl below ↦ h.puts x below
        | inr over ↦ let e : x ≡ length items = omega arith in rw e (omega (arith, idle.1))
      ];
      loads = λ x lt. elim (cases_lt x (length items)) [
        | inl below ↦ omega (arith, h.loads x below, ap initial_load (slice_get-old items (r ∷ []) x below))
        | inr over ↦ let e : x ≡ length items = omega arith in rw e (omega (arith, fresh, idle.0, small))
      ];
      pairs = h.pairs;
    }

failed-item : (form : Form) (nodes : ℕ) (items : List ItemRow) (r : ItemRow) (front ts : List Tree) → AllByRecursion (IsTree nodes items) front → AllByRecursion (IsTree nodes items) ts
    → unsigned_abs r.initial ≤ most_amount form → Failing form nodes items front ts → Failing form nodes (items ++ r ∷ []) front ts
failed-item form nodes items r front [] all each small h = tt
failed-item form nodes items r front (t ∷ ts) all each small h = (
  by t.written h.0,
  failed-item form nodes items r (front ++ t ∷ []) ts (all-push (IsTree nodes items) front t all each.0) each.1 small h.1,
)
  where
    by : (w : Option Written) → MayHaveFailed form nodes items front t w → MayHaveFailed form nodes (items ++ r ∷ []) front t w
    by None h = tt
    by (Some w) h = record {
      second = h.second;
      update = h.update;
      adds = h.adds;
      failed = h.failed;
      subs = h.subs;
      tree = tree-more nodes items r (as_written t w) h.tree;
      within = within-item form nodes items r (front ++ as_written t w ∷ []) (all-push (IsTree nodes items) front (as_written t w) all h.tree) small h.within;
    }

failed-second : (form : Form) (nodes : ℕ) (items : List ItemRow) (front ts : List Tree) → Failing form nodes items front ts → Failing forms.Two nodes items front ts
failed-second form nodes items front [] h = tt
failed-second form nodes items front (t ∷ ts) h = (by t.written h.0, failed-second form nodes items (front ++ t ∷ []) ts h.1)
  where
    by : (w : Option Written) → MayHaveFailed form nodes items front t w → MayHaveFailed forms.Two nodes items front t w
    by None h = tt
    by (Some w) h = subst (λ (f : Form). HasFailed f nodes items front t w) h.second h

module _ (form : Form) (nodes : ℕ) (items : List ItemRow) where
  pub failed-push : (front ts : List Tree) (t : Tree) → Failing form nodes items front ts → MayHaveFailed form nodes items (front ++ ts) t t.written → Failing form nodes items front (ts ++ t ∷ [])
  failed-push front [] t h new = (subst (λ (f : List Tree). MayHaveFailed form nodes items f t t.written) (append-nil front) new, tt)
  failed-push front (u ∷ us) t h new =
      let regrouped = subst (λ (f : List Tree). MayHaveFailed form nodes items f t t.written) (sym (append_assoc front (u ∷ []) us)) new in
      (h.0, failed-push (front ++ u ∷ []) us t h.1 regrouped)

  pub failed-front : (front ts more : List Tree) → Failing form nodes items front (ts ++ more) → Failing form nodes items front ts
  failed-front front [] more h = tt
  failed-front front (t ∷ ts) more h = (h.0, failed-front (front ++ t ∷ []) ts more h.1)

  pub failed-seam : (front ts more : List Tree) (t : Tree) → Failing form nodes items front (ts ++ t ∷ more) → MayHaveFailed form nodes items (front ++ ts) t t.written
  failed-seam front [] more t h = subst (λ (f : List Tree). MayHaveFailed form nodes items f t t.written) (sym (append-nil front)) h.0
  failed-seam front (u ∷ us) more t h =
      subst (λ (f : List Tree). MayHaveFailed form nodes items f t t.written) (append_assoc front (u ∷ []) us) (failed-seam (front ++ u ∷ []) us more t h.1)

pub last_written_is : (ts : List Tree) (t : Tree) → last_of ts ≡ Some t → last_written ts ≡ t.written
last_written_is ts t e = rw (e, last_written) refl

-- the last tree has changed, and what it was written as is what takes its place
pub failed-last : (form : Form) (nodes : ℕ) (items : List ItemRow) (f : Tree → Tree) (ts front : List Tree) (t : Tree) → ts ≡ front ++ t ∷ [] → MayHaveFailed form nodes items front (f t) (f t).written
    → Failing form nodes items [] ts → Failing form nodes items [] (on_last f ts)
failed-last form nodes items f ts front t e new h =
    let changed : on_last f ts ≡ front ++ f t ∷ [] = ap (on_last f) e ∙ on_last-seam f front t in
    let before = failed-front form nodes items [] front (t ∷ []) (subst (Failing form nodes items []) e h) in
    subst (Failing form nodes items []) (sym changed) (failed-push form nodes items [] front (f t) before new)

-- the last tree hasn't failed, and doesn't by this change
failed-on_last : (form : Form) (nodes : ℕ) (items : List ItemRow) (f : Tree → Tree) (ts : List Tree) → 0 < length ts → last_written ts ≡ None → ((t : Tree) → (f t).written ≡ t.written)
    → Failing form nodes items [] ts → Failing form nodes items [] (on_last f ts)
failed-on_last form nodes items f ts some unfailed same h =
    let parts = split_last ts some in
    let front = parts.0 in
    let t = parts.1 in
    let last : last_of ts ≡ Some t = ap last_of parts.2 ∙ last_of-seam front t in
    let none : (f t).written ≡ None = same t ∙ sym (last_written_is ts t last) ∙ unfailed in
    failed-last form nodes items f ts front t parts.2 (subst (MayHaveFailed form nodes items front (f t)) (sym none) tt) h

unfailed-on_last : (f : Tree → Tree) (ts : List Tree) → 0 < length ts → last_written ts ≡ None → ((t : Tree) → (f t).written ≡ t.written) → last_written (on_last f ts) ≡ None
unfailed-on_last f ts some unfailed same =
    let last = last_some ts some in
    last_written_is (on_last f ts) (f last.0) (last_of-on_last f ts last.0 last.1) ∙ same last.0 ∙ sym (last_written_is ts last.0 last.1) ∙ unfailed

-- subtransactions and rows at the end

subs-push : (nodes : ℕ) (items : List ItemRow) (kind : TreeKind) (k n : ℕ) (ss : List Sub) (x : Sub) → AreSubs nodes items kind k ss → n ≡ k + length ss → IsSub nodes items kind n x
    → AreSubs nodes items kind k (ss ++ x ∷ [])
subs-push nodes items kind k n [] x h e new = let same : n ≡ k = omega arith in (subst (λ (j : ℕ). IsSub nodes items kind j x) same new, tt)
subs-push nodes items kind k n (s ∷ ss) x h e new = (h.0, subs-push nodes items kind (k + 1) n ss x h.1 (omega arith) new)

subs-on_last : (nodes : ℕ) (items : List ItemRow) (kind : TreeKind) (f : Sub → Sub) (k : ℕ) (ss : List Sub) → AreSubs nodes items kind k ss
    → ((j : ℕ) (s : Sub) → last_of ss ≡ Some s → IsSub nodes items kind j s → IsSub nodes items kind j (f s)) → AreSubs nodes items kind k (on_last f ss)
subs-on_last nodes items kind f k [] h step = tt
subs-on_last nodes items kind f k (s ∷ []) h step = (step k s refl h.0, tt)
subs-on_last nodes items kind f k (s ∷ t ∷ ts) h step = (h.0, subs-on_last nodes items kind f (k + 1) (t ∷ ts) h.1 step)

names-push : (k n : ℕ) (rs : List ScriptRow) (t : TreeNo) → NamesInOrder k n rs → t.0 ≡ n → NamesInOrder k (n + 1) (rs ++ rows.Tree t ∷ [])
names-push k n [] t h e = (omega arith, omega arith)
names-push k n (rows.Tree u ∷ rs) t h e = (h.0, names-push (k + 1) n rs t h.1 e)
names-push k n (rows.Advance ∷ rs) t h e = names-push k n rs t h e
names-push k n (rows.Settle ∷ rs) t h e = names-push k n rs t h e
names-push k n (rows.Lose ∷ rs) t h e = names-push k n rs t h e

-- a row that isn't a tree's
abbrev pub is_plain : ScriptRow → Bool
is_plain (rows.Tree t) = false
is_plain rows.Advance = true
is_plain rows.Settle = true
is_plain rows.Lose = true

names-plain : (k n : ℕ) (rs : List ScriptRow) (r : ScriptRow) → NamesInOrder k n rs → is_plain r ≡ true → NamesInOrder k n (rs ++ r ∷ [])
names-plain k n [] (rows.Tree t) h e = absurd cc
names-plain k n [] rows.Advance h e = h
names-plain k n [] rows.Settle h e = h
names-plain k n [] rows.Lose h e = h
names-plain k n (rows.Tree u ∷ rs) r h e = (h.0, names-plain (k + 1) n rs r h.1 e)
names-plain k n (rows.Advance ∷ rs) r h e = names-plain k n rs r h e
names-plain k n (rows.Settle ∷ rs) r h e = names-plain k n rs r h e
names-plain k n (rows.Lose ∷ rs) r h e = names-plain k n rs r h e

pub advances-tree : (rs : List ScriptRow) (t : TreeNo) → advances_in (rs ++ rows.Tree t ∷ []) ≡ advances_in rs
advances-tree [] t = refl
advances-tree (r ∷ rs) t = omega (arith, advances-tree rs t)

pub advances-advance : (rs : List ScriptRow) → advances_in (rs ++ rows.Advance ∷ []) ≡ advances_in rs + 1
advances-advance [] = refl
advances-advance (r ∷ rs) = omega (arith, advances-advance rs)

pub advances-settle : (rs : List ScriptRow) → advances_in (rs ++ rows.Settle ∷ []) ≡ advances_in rs
advances-settle [] = refl
advances-settle (r ∷ rs) = omega (arith, advances-settle rs)

pub advances-lose : (rs : List ScriptRow) → advances_in (rs ++ rows.Lose ∷ []) ≡ advances_in rs
advances-lose [] = refl
advances-lose (r ∷ rs) = omega (arith, advances-lose rs)

-- one for a row that makes the coordinator forget
abbrev pub one_lose : ScriptRow → ℕ
one_lose r = if is_lose r then 1 else 0

pub loses-push : (rs : List ScriptRow) (r : ScriptRow) → loses_in (rs ++ r ∷ []) ≡ loses_in rs + one_lose r
loses-push [] r = omega arith
loses-push (q ∷ rs) r = omega (arith, loses-push rs r)

pub names-on_last : (f : Tree → Tree) (ts : List Tree) → ((t : Tree) → (f t).name ≡ t.name) → tree_names (on_last f ts) ≡ tree_names ts
names-on_last f [] same = refl
names-on_last f (t ∷ []) same = ap (λ (n : List ℕ). n ∷ []) (same t)
names-on_last f (t ∷ u ∷ us) same = ap (λ (ns : List (List ℕ)). t.name ∷ ns) (names-on_last f (u ∷ us) same)

pub some_last_subs : (nodes : ℕ) (items : List ItemRow) (ts : List Tree) → AllByRecursion (IsTree nodes items) ts → 0 < length ts → 0 < last_subs ts
some_last_subs nodes items ts h some =
    let last = last_some ts some in
    omega (arith, (all-last (IsTree nodes items) ts last.0 h last.1).root, last_subs_is ts last.0 last.1)

-- the operations of a tree, in order

ops-sub : (ss : List Sub) (x : Sub) → x.ops ≡ [] → ops_in (ss ++ x ∷ []) ≡ ops_in ss
ops-sub [] x e = append-nil x.ops ∙ e
ops-sub (s ∷ ss) x e = ap (λ (os : List SubOp). s.ops ++ os) (ops-sub ss x e)

ops-op : (ss : List Sub) (o : SubOp) → 0 < length ss → ops_in (on_last (push_op o) ss) ≡ ops_in ss ++ o ∷ []
ops-op [] o some = absurd (omega arith)
ops-op (s ∷ []) o some = append-nil (s.ops ++ o ∷ []) ∙ ap (λ (os : List SubOp). os ++ o ∷ []) (sym (append-nil s.ops))
ops-op (s ∷ t ∷ ts) o some = ap (λ (os : List SubOp). s.ops ++ os) (ops-op (t ∷ ts) o (omega arith)) ∙ sym (append_assoc s.ops (ops_in (t ∷ ts)) (o ∷ []))

-- one more item

-- what a form allows

and_so : (m most : ℕ) (b : Bool) → most ≤ MOST_AMOUNT → (nat_le m most && b) ≡ true → (nat_le m MOST_AMOUNT && b) ≡ true
and_so m most b le e = grind (arith, common_steps)

starts_small : (f : Form) (r : ItemRow) → may_start f r.kind r.initial ≡ true → unsigned_abs r.initial ≤ most_amount f
starts_small f r e = at_most (unsigned_abs r.initial) (most_amount f) (not (starts_full r.kind r.initial)) e

starts_empty : (f : Form) (r : ItemRow) → may_start f r.kind r.initial ≡ true → r.kind ≡ kinds.Bag → unsigned_abs r.initial ≡ 0
starts_empty f r e bag =
    let here : may_start f kinds.Bag r.initial ≡ true = subst (λ (k : Kind). may_start f k r.initial ≡ true) bag e in
    grind (arith, common_steps, here)

pub valid_item : (s : ScriptData) (r : ItemRow) → MayAddItem s r → IsValid s → IsValid (with_item s r)
valid_item s r may h =
    let more : length (s.items ++ r ∷ []) ≡ length s.items + 1 = omega (arith, length-append s.items (r ∷ [])) in
    let few = leb-false 10000 (length s.items) may.room in
    let idle = trees_before s.nodes s.items s.trees h.trees in
    let small = starts_small s.form r may.start in
    let item : IsItem s.nodes r = record { node = leb-false s.nodes r.node.0 may.place; bag = starts_empty s.form r may.start; name = may.plain; small = omega (arith, small, most_amount-small s.form) } in
    let names : item_names (s.items ++ r ∷ []) ≡ item_names s.items ++ r.name ∷ [] = map-append (λ (x : ItemRow). x.name) s.items (r ∷ []) in
    let new : list_any (bytes_eq r.name) (item_names s.items) ≡ false = has_item r.name s.items ∙ may.free in
    let fresh : initial_load (slice_get (s.items ++ r ∷ []) (length s.items)) ≡ unsigned_abs r.initial = ap initial_load (slice_get-seam s.items [] r) in
    record {
      some_nodes = h.some_nodes;
      few_nodes = h.few_nodes;
      few_items = omega arith;
      few_trees = h.few_trees;
      items = all-push (IsItem s.nodes) s.items r h.items item;
      trees = all-weaker (IsTree s.nodes s.items) (IsTree s.nodes (s.items ++ r ∷ [])) (tree-more s.nodes s.items r) s.trees h.trees;
      loads = λ x lt. elim (cases_lt x (length s.items)) [
        | inl below ↦ omega (arith, h.loads x below, ap initial_load (slice_get-old s.items (r ∷ []) x below))
        | inr over ↦ let e : x ≡ length s.items = omega arith in rw e (omega (arith, fresh, idle.0, small))
      ];
      rows = h.rows;
      begun = λ e. absurd cc;
      distinct_items = subst (IsDistinct bytes_eq) (sym names) (distinct-push bytes_eq nat_list_eq_equiv.symm (item_names s.items) r.name h.distinct_items new);
      distinct_trees = h.distinct_trees;
      limited = record {
        subs = h.limited.subs;
        ops = h.limited.ops;
        puts = λ x lt. elim (cases_lt x (length s.items)) [
          | inl below ↦ h.limited.puts x below
          | inr over ↦ let e : x ≡ length s.items = omega arith in rw e (omega (arith, idle.1))
        ];
        advances = h.limited.advances;
        loses = h.limited.loses;
        strict = h.limited.strict;
        pairs = h.limited.pairs;
        places = h.limited.places;
      };
      first_form = h.first_form;
      unfailed = λ e. absurd cc;
      failed = failed-item s.form s.nodes s.items r [] s.trees tt h.trees small h.failed;
    }

-- one more tree, with its root alone

pub record TreesLeft (nodes : ℕ) (kind : TreeKind) (ts : List Tree) : Type 0 where
  pub trees : length ts < 20000
  pub places : nodes * (length ts + 1) ≤ 320000
  pub subs : all_subs ts < 100000
  pub strict : strict_trees ts + one_if (is_strict kind) ≤ 1000
  pub pairs : (strict_trees ts + one_if (is_strict kind)) * (update_subs ts + if_update kind 1) ≤ 1000000

pub trees_left : (nodes : ℕ) (kind : TreeKind) (ts : List Tree) → has_no_tree_left nodes kind ts ≡ false → TreesLeft nodes kind ts
trees_left nodes kind ts e =
    let z = nat_le 20000 (length ts) in
    let y = are_spread nodes (length ts + 1) in
    let a = z || y in
    let b = nat_le 100000 (all_subs ts) in
    let c = nat_lt 1000 (strict_trees ts + one_if (is_strict kind)) in
    let d = are_many (strict_trees ts + one_if (is_strict kind)) (update_subs ts + if_update kind 1) in
    let f = or_left (a || b || c) d e in
    let g = or_left (a || b) c f in
    record {
      trees = leb-false 20000 (length ts) (or_left z y (or_left a b g));
      places = ltb-false 320000 (nodes * (length ts + 1)) (or_right z y (or_left a b g));
      subs = leb-false 100000 (all_subs ts) (or_right a b g);
      strict = ltb-false 1000 (strict_trees ts + one_if (is_strict kind)) (or_right (a || b) c f);
      pairs = ltb-false 1000000 ((strict_trees ts + one_if (is_strict kind)) * (update_subs ts + if_update kind 1)) (or_right (a || b || c) d e);
    }

pub valid_tree : (s : ScriptData) (name : List ℕ) (kind : TreeKind) (node : NodeNo) → MayAddTree s name kind node → IsValid s → IsValid (with_tree s name kind node)
unfolding IsDistinct
valid_tree s name kind node may h =
    let t : Tree = rooted name kind node in
    let x : Sub = record { parent = record { 0 = 0 }; node = node; ops = [] } in
    let left = trees_left s.nodes kind s.trees may.room in
    let len : length (s.trees ++ t ∷ []) ≡ length s.trees + 1 = omega (arith, length-append s.trees (t ∷ [])) in
    let loads : (k : ℕ) → trees_load k (s.trees ++ t ∷ []) ≡ trees_load k s.trees = λ k. total-tree (load_total k) s.trees t x refl refl in
    let puts : (k : ℕ) → trees_puts k (s.trees ++ t ∷ []) ≡ trees_puts k s.trees = λ k. total-tree (put_total k) s.trees t x refl refl in
    let root : IsSub s.nodes s.items kind 0 x = record {
      root = λ _. refl;
      parent = λ p. omega arith;
      node = leb-false s.nodes node.0 may.place;
      few = omega arith;
      ops = tt;
      amounts = tt;
    } in
    let tree : IsTree s.nodes s.items t = record { root = omega arith; few = omega arith; subs = (root, tt); name = may.plain; once = λ _. tt } in
    let names : tree_names (s.trees ++ t ∷ []) ≡ tree_names s.trees ++ name ∷ [] = map-append (λ (u : Tree). u.name) s.trees (t ∷ []) in
    let new : list_any (bytes_eq name) (tree_names s.trees) ≡ false = has_tree name s.trees ∙ may.free in
    let strict : strict_trees (s.trees ++ t ∷ []) ≡ strict_trees s.trees + one_if (is_strict kind) = sum-push (λ (u : Tree). one_if (is_strict u.kind)) strict_trees strict-sum s.trees t in
    let updates : update_subs (s.trees ++ t ∷ []) ≡ update_subs s.trees + if_update kind 1 =
    sum-push (λ (u : Tree). if_update u.kind (length u.subs)) update_subs update-sum s.trees t in
    let one_more = sum-push (λ (u : Tree). length u.subs) all_subs all_subs-sum s.trees t in
    let same_ops = total-tree op_total s.trees t x refl refl in
    record {
      some_nodes = h.some_nodes;
      few_nodes = h.few_nodes;
      few_items = h.few_items;
      few_trees = omega (arith, left.trees);
      items = h.items;
      trees = all-push (IsTree s.nodes s.items) s.trees t h.trees tree;
      loads = λ k lt. omega (arith, h.loads k lt, loads k);
      rows = rw len (names-push 0 (length s.trees) s.rows (record { 0 = length s.trees }) h.rows refl);
      begun = λ _. omega arith;
      distinct_items = h.distinct_items;
      distinct_trees = subst (IsDistinct bytes_eq) (sym names) (distinct-push bytes_eq nat_list_eq_equiv.symm (tree_names s.trees) name h.distinct_trees new);
      limited = record {
        subs = omega (arith, left.subs);
        ops = omega (arith, h.limited.ops);
        puts = λ k lt. omega (arith, h.limited.puts k lt, puts k);
        advances = omega (arith, h.limited.advances, advances-tree s.rows (record { 0 = length s.trees }));
        loses = omega (arith, h.limited.loses, loses-push s.rows (rows.Tree (record { 0 = length s.trees })));
        strict = omega (arith, left.strict);
        pairs = rw (strict, updates) left.pairs;
        places = rw len left.places;
      };
      first_form = λ e. omega (arith, h.first_form e, loses-push s.rows (rows.Tree (record { 0 = length s.trees })));
      unfailed = λ _. last_written_is (s.trees ++ t ∷ []) t (last_of-seam s.trees t);
      failed = failed-push s.form s.nodes s.items [] s.trees t h.failed tt;
    }

-- one more subtransaction of the last tree

pub record SubsLeft (ts : List Tree) : Type 0 where
  pub tree : last_subs ts < 64
  pub subs : all_subs ts < 100000
  pub pairs : strict_trees ts * (update_subs ts + if_update (last_kind ts) 1) ≤ 1000000

pub subs_left : (ts : List Tree) → has_no_sub_left ts ≡ false → SubsLeft ts
subs_left ts e =
    let a = nat_le 64 (last_subs ts) in
    let b = nat_le 100000 (all_subs ts) in
    let c = are_many (strict_trees ts) (update_subs ts + if_update (last_kind ts) 1) in
    let f = or_left (a || b) c e in
    record {
      tree = leb-false 64 (last_subs ts) (or_left a b f);
      subs = leb-false 100000 (all_subs ts) (or_right a b f);
      pairs = ltb-false 1000000 (strict_trees ts * (update_subs ts + if_update (last_kind ts) 1)) (or_right (a || b) c e);
    }

pub valid_sub : (s : ScriptData) (parent : ℕ) (node : NodeNo) → MayAddSub s parent node → IsValid s → IsValid (with_sub s parent node)
valid_sub s parent node may h =
    let x : Sub = record { parent = record { 0 = parent }; node = node; ops = [] } in
    let some = h.begun may.begun in
    let left = subs_left s.trees may.room in
    let earlier = leb-false (last_subs s.trees) parent may.earlier in
    let place = leb-false s.nodes node.0 may.place in
    let len = length-on_last (push_sub x) s.trees in
    let names = names-on_last (push_sub x) s.trees (λ t. refl) in
    let strict = strict-sub s.trees x some in
    let updates = update-sub s.trees x some in
    let one_more = subs-sub s.trees x some in
    let same_ops = total-sub op_total s.trees x refl some in
    let step : (t : Tree) → last_of s.trees ≡ Some t → IsTree s.nodes s.items t → IsTree s.nodes s.items (push_sub x t) = λ t e th.
    let count = last_subs_is s.trees t e in
    let more = length-append t.subs (x ∷ []) in
    let new : IsSub s.nodes s.items t.kind (length t.subs) x = record {
      root = λ q. omega (arith, th.root);
      parent = λ _. omega arith;
      node = place;
      few = omega arith;
      ops = tt;
      amounts = tt;
    } in
    record {
      root = omega arith;
      few = omega (arith, left.tree);
      subs = subs-push s.nodes s.items t.kind 0 (length t.subs) t.subs x th.subs (omega arith) new;
      name = th.name;
      once = λ k. subst (λ (os : List SubOp). IsDistinct nat_eq (map (λ o. o.item.0) os)) (sym (ops-sub t.subs x refl)) (th.once k);
    } in
    record {
      some_nodes = h.some_nodes;
      few_nodes = h.few_nodes;
      few_items = h.few_items;
      few_trees = omega (arith, h.few_trees);
      items = h.items;
      trees = all-on_last (IsTree s.nodes s.items) (push_sub x) s.trees h.trees step;
      loads = λ k lt. omega (arith, h.loads k lt, total-sub (load_total k) s.trees x refl some);
      rows = rw len h.rows;
      begun = λ _. omega arith;
      distinct_items = h.distinct_items;
      distinct_trees = subst (IsDistinct bytes_eq) (sym names) h.distinct_trees;
      limited = record {
        subs = omega (arith, left.subs);
        ops = omega (arith, h.limited.ops);
        puts = λ k lt. omega (arith, h.limited.puts k lt, total-sub (put_total k) s.trees x refl some);
        advances = h.limited.advances;
        loses = h.limited.loses;
        strict = omega (arith, h.limited.strict);
        pairs = rw (strict, updates) left.pairs;
        places = rw len h.limited.places;
      };
      first_form = h.first_form;
      unfailed = λ _. unfailed-on_last (push_sub x) s.trees some (h.unfailed may.begun) (λ t. refl);
      failed = failed-on_last s.form s.nodes s.items (push_sub x) s.trees some (h.unfailed may.begun) (λ t. refl) h.failed;
    }

-- one more operation of the last subtransaction

pub record OpsLeft (k : ℕ) (deed : Deed) (ts : List Tree) : Type 0 where
  pub sub : last_count ts < 16
  pub ops : all_ops ts < 200000
  pub puts : trees_puts k ts + one_put deed ≤ 64

pub ops_left : (k : ℕ) (deed : Deed) (ts : List Tree) → has_no_op_left k deed ts ≡ false → OpsLeft k deed ts
ops_left k deed ts e =
    let a = nat_le 16 (last_count ts) in
    let b = nat_le 200000 (all_ops ts) in
    let c = nat_lt 64 (trees_puts k ts + one_put deed) in
    let f = or_left (a || b) c e in
    record {
      sub = leb-false 16 (last_count ts) (or_left a b f);
      ops = leb-false 200000 (all_ops ts) (or_right a b f);
      puts = ltb-false 64 (trees_puts k ts + one_put deed) (or_right (a || b) c e);
    }

abbrev kind_in : Option ItemRow → Kind
kind_in o = elim o [ None ↦ kinds.Sum | Some row ↦ row.kind ]

-- an operation on the item of this number fits the last subtransaction
op_new : (items : List ItemRow) (kind : TreeKind) (node : ℕ) (o : SubOp) → o.item.0 < length items → node_at o.item.0 items ≡ node → deed_fits kind (item_kind_at o.item.0 items) o.deed ≡ true → IsOp items kind node o
op_new items kind node o lt at fits = elim (slice_get_cases items o.item.0).1 [
  | inl found ↦
      let is : slice_get items o.item.0 ≡ Some found.0 = found.2 in
      let here : found.0.node.0 ≡ node = sym (ap (λ (p : Option ItemRow). elim p [ None ↦ 0 | Some row ↦ row.node.0 ]) is) ∙ at in
      let good : IsTrue (deed_fits kind found.0.kind o.deed) = sym (ap (λ (p : Option ItemRow). deed_fits kind (kind_in p) o.deed) is) ∙ fits in
      subst (OpAt kind node o) (sym is) (here, good)
  | inr past ↦ absurd (omega (arith, past.0))
]

untouched : (k : ℕ) (ts : List Tree) (t : Tree) → last_of ts ≡ Some t → has_touched k ts ≡ false → (is_strict t.kind && touch k t.subs) ≡ false
untouched k ts t e h = let same : has_touched k ts ≡ (is_strict t.kind && touch k t.subs) = rw (e, has_touched) refl in sym same ∙ h

untouched_strict : (kind : TreeKind) (b : Bool) → kind ≡ trees.Strict → (is_strict kind && b) ≡ false → b ≡ false
untouched_strict kind b e h = subst (λ (k : TreeKind). (is_strict k && b) ≡ false) e h

same_item : (k : ℕ) (ss : List Sub) → list_any (nat_eq k) (touched_items ss) ≡ touch k ss
same_item k ss = any-map (nat_eq k) (λ (o : SubOp). o.item.0) (λ o. nat_eq o.item.0 k) (λ o. nat_eq_equiv.symm k o.item.0) (ops_in ss)

-- what is in a form's range is in the wider one
wider : (f : Form) (deed : Deed) → is_in_range f deed ≡ true → is_in_range forms.Two deed ≡ true
wider f deed e = and_so (magnitude deed) (most_amount f) (not (draws_negative deed)) (most_amount-small f) e

pub valid_op : (s : ScriptData) (k : ℕ) (deed : Deed) → MayAddOp s k deed → IsValid s → IsValid (with_op s k deed)
valid_op s k deed may h =
    let o : SubOp = record { item = record { 0 = k }; deed = deed } in
    let some = h.begun may.begun in
    let left = ops_left k deed s.trees may.room in
    let node = eqb-true (node_at k s.items) (last_node s.trees) may.node in
    let small = ltb-false (most_amount s.form) (load k s + magnitude deed) may.load in
    let root = some_last_subs s.nodes s.items s.trees h.trees some in
    let len = length-on_last (on_last_sub (push_op o)) s.trees in
    let names = names-on_last (on_last_sub (push_op o)) s.trees (λ t. refl) in
    let strict = strict-op s.trees o some in
    let updates = update-op s.trees o some in
    let same_subs = subs-op s.trees o some in
    let one_more = total-op op_total s.trees o some root in
    let step : (t : Tree) → last_of s.trees ≡ Some t → IsTree s.nodes s.items t → IsTree s.nodes s.items (on_last_sub (push_op o) t) = λ t e th.
    let same = length-on_last (push_op o) t.subs in
    let new : (j : ℕ) (x : Sub) → last_of t.subs ≡ Some x → IsSub s.nodes s.items t.kind j x → IsSub s.nodes s.items t.kind j (push_op o x) = λ j x f xh.
    let last = last_sub_is s.trees t x e f in
    let count = last_count_is s.trees x last in
    let its_node : node_at k s.items ≡ x.node.0 = node ∙ last_node_is s.trees x last in
    let its_kind : deed_fits t.kind (item_kind_at k s.items) deed ≡ true = sym (ap (λ (q : TreeKind). deed_fits q (item_kind_at k s.items) deed) (last_kind_is s.trees t e)) ∙ may.kind in
    record {
      root = xh.root;
      parent = xh.parent;
      node = xh.node;
      few = omega (arith, length-append x.ops (o ∷ []), left.sub);
      ops = all-push (IsOp s.items t.kind x.node.0) x.ops o xh.ops (op_new s.items t.kind x.node.0 o may.item its_node its_kind);
      amounts = all-push (λ (p : SubOp). IsTrue (is_in_range forms.Two p.deed)) x.ops o xh.amounts (wider s.form deed may.range);
    } in
    let items : touched_items (on_last (push_op o) t.subs) ≡ touched_items t.subs ++ k ∷ [] =
    ap (map (λ (p : SubOp). p.item.0)) (ops-op t.subs o th.root) ∙ map-append (λ (p : SubOp). p.item.0) (ops_in t.subs) (o ∷ []) in
    record {
      root = omega (arith, th.root);
      few = omega (arith, th.few);
      subs = subs-on_last s.nodes s.items t.kind (push_op o) 0 t.subs th.subs new;
      name = th.name;
      once = λ strict.
          let other : list_any (nat_eq k) (touched_items t.subs) ≡ false = same_item k t.subs ∙ untouched_strict t.kind (touch k t.subs) strict (untouched k s.trees t e may.once) in
          subst (IsDistinct nat_eq) (sym items) (distinct-push nat_eq nat_eq_equiv.symm (touched_items t.subs) k (th.once strict) other);
    } in
    record {
      some_nodes = h.some_nodes;
      few_nodes = h.few_nodes;
      few_items = h.few_items;
      few_trees = omega (arith, h.few_trees);
      items = h.items;
      trees = all-on_last (IsTree s.nodes s.items) (on_last_sub (push_op o)) s.trees h.trees step;
      loads = λ j lt. elim (cases_eq j k) [
        | inl e ↦ rw e (omega (arith, total-op (load_total k) s.trees o some root, load_same o k refl, small))
        | inr ne ↦ omega (arith, h.loads j lt, total-op (load_total j) s.trees o some root, load_other o j (λ q. ne (sym q)))
      ];
      rows = rw len h.rows;
      begun = λ _. omega arith;
      distinct_items = h.distinct_items;
      distinct_trees = subst (IsDistinct bytes_eq) (sym names) h.distinct_trees;
      limited = record {
        subs = omega (arith, h.limited.subs);
        ops = omega (arith, left.ops);
        puts = λ j lt. elim (cases_eq j k) [
          | inl e ↦ rw e (omega (arith, total-op (put_total k) s.trees o some root, put_same o k refl, left.puts))
          | inr ne ↦ omega (arith, h.limited.puts j lt, total-op (put_total j) s.trees o some root, put_other o j (λ q. ne (sym q)))
        ];
        advances = h.limited.advances;
        loses = h.limited.loses;
        strict = omega (arith, h.limited.strict);
        pairs = rw (strict, updates) h.limited.pairs;
        places = rw len h.limited.places;
      };
      first_form = h.first_form;
      unfailed = λ _. unfailed-on_last (on_last_sub (push_op o)) s.trees some (h.unfailed may.begun) (λ t. refl);
      failed = failed-on_last s.form s.nodes s.items (on_last_sub (push_op o)) s.trees some (h.unfailed may.begun) (λ t. refl) h.failed;
    }

-- a row that isn't a tree's, and a pick

pub valid_row : (s : ScriptData) (r : ScriptRow) → is_plain r ≡ true → advances_in (s.rows ++ r ∷ []) ≤ 100 → loses_in (s.rows ++ r ∷ []) ≤ 100
    → (s.form ≡ forms.One → one_lose r ≡ 0) → IsValid s → IsValid (with_row s r)
valid_row s r plain few few_loses first h = record {
  some_nodes = h.some_nodes;
  few_nodes = h.few_nodes;
  few_items = h.few_items;
  few_trees = h.few_trees;
  items = h.items;
  trees = h.trees;
  loads = h.loads;
  rows = names-plain 0 (length s.trees) s.rows r h.rows plain;
  begun = λ e. absurd cc;
  distinct_items = h.distinct_items;
  distinct_trees = h.distinct_trees;
  limited = record { subs = h.limited.subs; ops = h.limited.ops; puts = h.limited.puts; advances = few; loses = few_loses; strict = h.limited.strict; pairs = h.limited.pairs; places = h.limited.places };
  first_form = λ e. omega (arith, h.first_form e, first e, loses-push s.rows r);
  unfailed = λ e. absurd cc;
  failed = h.failed;
}

pub valid_pick : (s : ScriptData) (k : ℕ) → IsValid s → IsValid (record s { picks = s.picks ++ k ∷ []; begun = false })
valid_pick s k h = record {
  some_nodes = h.some_nodes;
  few_nodes = h.few_nodes;
  few_items = h.few_items;
  few_trees = h.few_trees;
  items = h.items;
  trees = h.trees;
  loads = h.loads;
  rows = h.rows;
  begun = λ e. absurd cc;
  distinct_items = h.distinct_items;
  distinct_trees = h.distinct_trees;
  limited = record {
    subs = h.limited.subs;
    ops = h.limited.ops;
    puts = h.limited.puts;
    advances = h.limited.advances;
    loses = h.limited.loses;
    strict = h.limited.strict;
    pairs = h.limited.pairs;
    places = h.limited.places;
  };
  first_form = h.first_form;
  unfailed = λ e. absurd cc;
  failed = h.failed;
}

-- a script of the second form allows more

wider_nodes : (f : Form) (n : ℕ) → n ≤ most_nodes f → n ≤ 64
wider_nodes f n le = omega (arith, most_nodes-small f)

pub valid_upgraded : (s : ScriptData) → IsValid s → IsValid (upgraded s)
valid_upgraded s h = record {
  some_nodes = h.some_nodes;
  few_nodes = wider_nodes s.form s.nodes h.few_nodes;
  few_items = h.few_items;
  few_trees = h.few_trees;
  items = h.items;
  trees = h.trees;
  loads = λ x lt. omega (arith, h.loads x lt, most_amount-small s.form);
  rows = h.rows;
  begun = h.begun;
  distinct_items = h.distinct_items;
  distinct_trees = h.distinct_trees;
  limited = record {
    subs = h.limited.subs;
    ops = h.limited.ops;
    puts = h.limited.puts;
    advances = h.limited.advances;
    loses = h.limited.loses;
    strict = h.limited.strict;
    pairs = h.limited.pairs;
    places = h.limited.places;
  };
  first_form = λ e. absurd (cc e);
  unfailed = h.unfailed;
  failed = failed-second s.form s.nodes s.items [] s.trees h.failed;
}
