-- A valid script is built again from its own rows: each of its records meets no condition of refusal, since every limit
-- that holds of the whole script holds of what is before the record. And what rows name and count.
use Rattle.std.proofs.Common.{◌≡◌, ◌<◌, ◌≤◌, ◌+◌, ◌*◌, ℕ, Bool, true, false, List, [], ◌∷◌, ◌++◌, length, map, refl, sym, ap, ◌∙◌, subst, arith, length-append, append_assoc, cond, suc, zero, drop, take}
use Rattle.std.specs.Prelude.{◌==◌, ◌&&◌, not, IsTrue, Option, Some, None, Result, Ok, nat_eq, nat_le, nat_lt, position, slice_get, unsigned_abs}
use Rattle.std.specs.List.{AllByRecursion, IsDistinct, list_any, position_or_len}
use Rattle.std.specs.Str.{bytes_eq}
use Rattle.std.proofs.lemmas.Bool.{lt-ltb, or_from, le-ltb, lt-leb}
use Rattle.std.proofs.lemmas.Cmp.{nat_eq_equiv, nat_list_eq_equiv}
use Rattle.std.proofs.lemmas.Grind.{common_steps}
use Rattle.std.proofs.lemmas.List.{append-nil, map-append, take-append-drop}
use Rattle.std.proofs.lemmas.Nat.{mul-le}
use Rattle.commute_ops.specs.declared.kinds.Kind.{Kind}
use Rattle.commute_ops.specs.declared.kinds.Kind.TheVariants as kinds
use Rattle.commute_ops.specs.declared.kinds.TheConstants.{MOST_AMOUNT}
use Rattle.tv_base.specs.Sums.{one_if}
use Rattle.tv_base.specs.declared.numbers.TreeNo.{TreeNo}
use Rattle.script_parts.specs.Adding.{adds_advance, adds_lose, are_crowded, failed_tree, fresh, is_heavy, may_fail, has_touched, item_kind_at, last_count, last_kind, last_node, last_of, last_sub, last_subs, node_at, on_last, on_last_sub, place_of, push_op, push_sub, touch}
use Rattle.script_parts.specs.Amounts.{magnitude}
use Rattle.script_parts.specs.Forms.{most_amount}
use Rattle.script_parts.specs.Counts.{advances_in, all_ops, all_subs, loses_in, if_update, one_put, ops_in, strict_trees, subs_ops, trees_puts, update_subs}
use Rattle.script_parts.specs.inside.Passing.{MayAddItem, MayAddOp, MayAddSub, MayAddTree}
use Rattle.script_parts.specs.Ranges.{draws_negative, is_in_range, may_start}
use Rattle.script_parts.specs.Rebuilt.{RebuiltAs, fail_added, items_added, name_at, ops_added, picks_added, rebuilt, rooted_added, row_added, rows_added, subs_added, then_more, tree_added}
use Rattle.script_parts.specs.ScriptData.{ScriptData, is_strict}
use Rattle.script_parts.specs.Valid.{AreSubs, IsItem, IsOp, IsSub, HasFailed, IsTree, IsValid, MayAllHaveFailed, MayHaveFailed, NamesInOrder, OpAt, as_written, deed_fits, initial_load, item_names, touched_items, load, subs_load, tree_names, trees_load}
use Rattle.script_parts.specs.declared.parts.Deed.{Deed}
use Rattle.script_parts.specs.declared.parts.Form.{Form}
use Rattle.script_parts.specs.declared.parts.Form.TheVariants as forms
use Rattle.script_parts.specs.declared.parts.ItemRow.{ItemRow}
use Rattle.script_parts.specs.declared.parts.ScriptRow.{ScriptRow}
use Rattle.script_parts.specs.declared.parts.ScriptRow.TheVariants as rows
use Rattle.script_parts.specs.declared.parts.Sub.{Sub}
use Rattle.script_parts.specs.declared.parts.SubOp.{SubOp}
use Rattle.script_parts.specs.declared.parts.Tree.{Tree}
use Rattle.script_parts.specs.declared.parts.TreeKind.{TreeKind}
use Rattle.script_parts.specs.declared.parts.TreeKind.TheVariants as trees
use Rattle.script_parts.specs.declared.parts.Written.{Written}
use Rattle.script_parts.specs.declared.why.Why.{Why}
use Rattle.script_parts.proofs.Last.{last_count_is, last_kind_is, last_node_is, last_sub_is, last_subs_is}
use Rattle.script_parts.proofs.Lists.{all-before, all-push, all-seam, distinct-before, distinct-front, last_of-seam, on_last-seam, or_left, or_right, slice_get-seam, sum-append, sum-push}
use Rattle.script_parts.proofs.Named.{any-map, has_item, has_tree}
use Rattle.script_parts.proofs.SubsOf.{names_end}
use Rattle.tx_trees.proofs.Undoing.{crowded_not, last_may_fail_is, may_fail_is, none_any}
use Rattle.tx_trees.proofs.Passes.{fail_passes, item_passes, op_passes, sub_passes, tree_passes}
use Rattle.tx_trees.proofs.Stays.{failed-front, failed-push, failed-seam, last_written_is, op_within}
use Rattle.script_parts.proofs.Totals.{all_subs-sum, load_same, load_total, op_load, op_put, op_total, put_same, put_total, strict-sum, total-part, update-sum}

-- what is taken goes on
taken : (r : Result ScriptData Why) (t : ScriptData) (more : ScriptData → Result ScriptData Why) → r ≡ Ok t → then_more r more ≡ more t
taken r t more e = ap (λ (x : Result ScriptData Why). then_more x more) e

-- items

may_start-from : (f : Form) (r : ItemRow) → unsigned_abs r.initial ≤ most_amount f → (r.kind ≡ kinds.Bag → unsigned_abs r.initial ≡ 0) → may_start f r.kind r.initial ≡ true
may_start-from f r small bag = by r.kind refl
  where
    by : (k : Kind) → r.kind ≡ k → may_start f r.kind r.initial ≡ true
    by kinds.Sum e = rw e (grind (arith, common_steps))
    by kinds.Top e = rw e (grind (arith, common_steps))
    by kinds.Bag e = let zero : unsigned_abs r.initial ≡ 0 = bag e in rw e (grind (arith, common_steps))

module _ (s : ScriptData) (h : IsValid s) where
  may_add_item : (acc rest : List ItemRow) (r : ItemRow) → acc ++ r ∷ rest ≡ s.items → MayAddItem (record (fresh s.form s.nodes) { items = acc }) r
  may_add_item acc rest r e =
      let within : length acc < length s.items = omega (arith, ap length e, length-append acc (r ∷ rest)) in
      let here : slice_get s.items (length acc) ≡ Some r = ap (λ (xs : List ItemRow). slice_get xs (length acc)) (sym e) ∙ slice_get-seam acc rest r in
      let item : IsItem s.nodes r = all-seam (IsItem s.nodes) acc rest r (subst (AllByRecursion (IsItem s.nodes)) (sym e) h.items) in
      let names : item_names s.items ≡ item_names acc ++ r.name ∷ item_names rest = ap item_names (sym e) ∙ map-append (λ (x : ItemRow). x.name) acc (r ∷ rest) in
      let new : list_any (bytes_eq r.name) (item_names acc) ≡ false =
      distinct-front bytes_eq nat_list_eq_equiv.symm (item_names acc) (item_names rest) r.name (subst (IsDistinct bytes_eq) names h.distinct_items) in
      record {
        place = lt-leb s.nodes r.node.0 item.node;
        start = may_start-from s.form r (omega (arith, h.loads (length acc) within, ap initial_load here)) item.bag;
        plain = item.name;
        free = sym (has_item r.name acc) ∙ new;
        room = lt-leb 10000 (length acc) (omega (arith, h.few_items, ap length e, length-append acc (r ∷ rest)));
      }

  items_done : (acc rest : List ItemRow) → acc ++ rest ≡ s.items → items_added (record (fresh s.form s.nodes) { items = acc }) rest ≡ Ok (record (fresh s.form s.nodes) { items = s.items })
  items_done acc [] e = ap (λ (xs : List ItemRow). Ok (let t : ScriptData = record (fresh s.form s.nodes) { items = xs } in t)) (sym (append-nil acc) ∙ e)
  items_done acc (r ∷ rest) e =
      taken _ _ (λ t. items_added t rest) (item_passes (record (fresh s.form s.nodes) { items = acc }) r (may_add_item acc rest r e))
      ∙ items_done (acc ++ r ∷ []) rest (append_assoc acc (r ∷ []) rest ∙ e)

-- operations

-- what is in the wider range is in the form's if it is small enough
in_range : (f : Form) (deed : Deed) → magnitude deed ≤ most_amount f → is_in_range forms.Two deed ≡ true → is_in_range f deed ≡ true
in_range f deed small e = within (magnitude deed) (most_amount f) (not (draws_negative deed)) small e
  where
    within : (m most : ℕ) (b : Bool) → m ≤ most → (nat_le m MOST_AMOUNT && b) ≡ true → (nat_le m most && b) ≡ true
    within m most b small e = grind (arith, common_steps)

-- where the item of a name is
position_found : {X : Type 0} (p : X → Bool) (xs ys : List X) (x : X) → list_any p xs ≡ false → p x ≡ true → position p (xs ++ x ∷ ys) ≡ Some (length xs)
position_found p xs ys x absent found =
    let at : position_or_len p (xs ++ x ∷ ys) ≡ length xs = first xs absent in
    let lt : nat_lt (length xs) (length (xs ++ x ∷ ys)) ≡ true = lt-ltb (length xs) (length (xs ++ x ∷ ys)) (omega (arith, length-append xs (x ∷ ys))) in
    ap (λ (n : ℕ). cond (nat_lt n (length (xs ++ x ∷ ys))) (Some n) None) at ∙ ap (λ (b : Bool). cond b (Some (length xs)) None) lt
  where
    first : (zs : List _) → list_any p zs ≡ false → position_or_len p (zs ++ x ∷ ys) ≡ length zs
    first [] absent = ap (λ (b : Bool). cond (not b) (1 + position_or_len p ys) 0) found
    first (z ∷ zs) absent =
        let here = or_left (p z) (list_any p zs) absent in
        let rest = first zs (or_right (p z) (list_any p zs) absent) in
        ap (λ (b : Bool). cond (not b) (1 + position_or_len p (zs ++ x ∷ ys)) 0) here ∙ omega (arith, rest)

-- the items before and after item k
split_at : (items : List ItemRow) (k : ℕ) (row : ItemRow) → slice_get items k ≡ Some row → (front : List ItemRow) × (back : List ItemRow) × ((front ++ row ∷ back ≡ items) × (length front ≡ k))
split_at [] k row e = absurd cc
split_at (r ∷ rs) zero row e = let is : row ≡ r = cc in ([], rs, (ap (λ (x : ItemRow). x ∷ rs) is, refl))
split_at (r ∷ rs) (suc k) row e =
    let more = split_at rs k row e in
    (r ∷ more.0, more.1, (ap (λ (xs : List ItemRow). r ∷ xs) more.2.0, ap suc more.2.1))

place_found : (items : List ItemRow) (k : ℕ) (row : ItemRow) → IsDistinct bytes_eq (item_names items) → slice_get items k ≡ Some row → place_of row.name items ≡ Some k
place_found items k row distinct at =
    let parts = split_at items k row at in
    let front = parts.0 in
    let back = parts.1 in
    let names : item_names items ≡ item_names front ++ row.name ∷ item_names back = ap item_names (sym parts.2.0) ∙ map-append (λ (x : ItemRow). x.name) front (row ∷ back) in
    let new : list_any (bytes_eq row.name) (item_names front) ≡ false =
    distinct-front bytes_eq nat_list_eq_equiv.symm (item_names front) (item_names back) row.name (subst (IsDistinct bytes_eq) names distinct) in
    let absent : list_any (λ (r : ItemRow). bytes_eq r.name row.name) front ≡ false =
    sym (any-map (bytes_eq row.name) (λ (r : ItemRow). r.name) (λ r. bytes_eq r.name row.name) (λ r. nat_list_eq_equiv.symm row.name r.name) front) ∙ new in
    ap (place_of row.name) (sym parts.2.0)
    ∙ position_found (λ (r : ItemRow). bytes_eq r.name row.name) front back row absent (nat_list_eq_equiv.refl row.name)
    ∙ ap Some parts.2.1

-- the row of the item of an operation
row_of : (kind : TreeKind) (node : ℕ) (o : SubOp) (found : Option ItemRow) → OpAt kind node o found → (row : ItemRow) × ((found ≡ Some row) × (row.node.0 ≡ node) × (deed_fits kind row.kind o.deed ≡ true))
row_of kind node o None h = absurd h
row_of kind node o (Some row) h = (row, (refl, h.0, h.1))

pub node_row : (items : List ItemRow) (k : ℕ) (row : ItemRow) → slice_get items k ≡ Some row → node_at k items ≡ row.node.0
node_row items k row e = rw (e, node_at) refl

pub kind_row : (items : List ItemRow) (k : ℕ) (row : ItemRow) → slice_get items k ≡ Some row → item_kind_at k items ≡ row.kind
kind_row items k row e = rw (e, item_kind_at) refl

name_is : (items : List ItemRow) (k : ℕ) (row : ItemRow) → slice_get items k ≡ Some row → name_at k items ≡ row.name
name_is items k row e = rw (e, name_at) refl

-- subtransactions from number k on
sub_at_seam : (nodes : ℕ) (items : List ItemRow) (kind : TreeKind) (k : ℕ) (xs ys : List Sub) (x : Sub) → AreSubs nodes items kind k (xs ++ x ∷ ys) → IsSub nodes items kind (k + length xs) x
sub_at_seam nodes items kind k [] ys x h = let same : k ≡ k + 0 = omega arith in subst (λ (j : ℕ). IsSub nodes items kind j x) same h.0
sub_at_seam nodes items kind k (y ∷ xs) ys x h =
    let same : k + 1 + length xs ≡ k + length (y ∷ xs) = omega arith in
    subst (λ (j : ℕ). IsSub nodes items kind j x) same (sub_at_seam nodes items kind (k + 1) xs ys x h.1)

ops-append : (xs ys : List Sub) → ops_in (xs ++ ys) ≡ ops_in xs ++ ops_in ys
ops-append [] ys = refl
ops-append (x ∷ xs) ys = ap (λ (os : List SubOp). x.ops ++ os) (ops-append xs ys) ∙ sym (append_assoc x.ops (ops_in xs) (ops_in ys))

-- a tree, by its parts
abbrev tree_of : List ℕ → TreeKind → List Sub → Tree
tree_of name kind subs = record { name = name; kind = kind; subs = subs; written = None }

-- a subtransaction with so many of its operations
abbrev cut : Sub → List SubOp → Sub
cut x os = record x { ops = os }

untouched : (kind : TreeKind) (b : Bool) → (kind ≡ trees.Strict → b ≡ false) → (is_strict kind && b) ≡ false
untouched trees.Update b e = refl
untouched trees.Read b e = refl
untouched trees.Strict b e = e refl

-- the script with its items, these trees and these rows
abbrev with_rows : ScriptData → List Tree → List ScriptRow → Bool → ScriptData
with_rows s ts rs b = record { form = s.form; nodes = s.nodes; items = s.items; trees = ts; rows = rs; picks = []; begun = b }

-- what an update tree with more subtransactions counts
update_grown : (kind : TreeKind) (n m : ℕ) → n < m → if_update kind n + if_update kind 1 ≤ if_update kind m
update_grown trees.Update n m lt = omega arith
update_grown trees.Read n m lt = omega arith
update_grown trees.Strict n m lt = omega arith

module _ (s : ScriptData) (h : IsValid s) where
  tree_here : (T Ts : List Tree) (t : Tree) → T ++ t ∷ Ts ≡ s.trees → IsTree s.nodes s.items t
  tree_here T Ts t e = all-seam (IsTree s.nodes s.items) T Ts t (subst (AllByRecursion (IsTree s.nodes s.items)) (sym e) h.trees)

  may_add_op : (T Ts : List Tree) (name : List ℕ) (kind : TreeKind) (S X : List Sub) (x : Sub) (O os : List SubOp) (o : SubOp) (rs : List ScriptRow)
      → T ++ tree_of name kind (S ++ x ∷ X) ∷ Ts ≡ s.trees → O ++ o ∷ os ≡ x.ops
      → MayAddOp (with_rows s (T ++ tree_of name kind (S ++ cut x O ∷ []) ∷ []) rs true) o.item.0 o.deed
  may_add_op T Ts name kind S X x O os o rs e f =
      let t : Tree = tree_of name kind (S ++ x ∷ X) in
      let u : Tree = tree_of name kind (S ++ cut x O ∷ []) in
      let ts : List Tree = T ++ u ∷ [] in
      let k = o.item.0 in
      let tree = tree_here T Ts t e in
      let sub = sub_at_seam s.nodes s.items kind 0 S X x tree.subs in
      let here = all-seam (IsOp s.items kind x.node.0) O os o (subst (AllByRecursion (IsOp s.items kind x.node.0)) (sym f) sub.ops) in
      let row = row_of kind x.node.0 o (slice_get s.items k) here in
      let wide : is_in_range forms.Two o.deed ≡ true =
      all-seam (λ (p : SubOp). IsTrue (is_in_range forms.Two p.deed)) O os o (subst (AllByRecursion (λ (p : SubOp). IsTrue (is_in_range forms.Two p.deed))) (sym f) sub.amounts) in
      let within = op_within s.items kind x.node.0 o here in
      let last : last_of ts ≡ Some u = last_of-seam T u in
      let its_sub : last_sub ts ≡ Some (cut x O) = last_sub_is ts u (cut x O) last (last_of-seam S (cut x O)) in
      let node : node_at k s.items ≡ last_node ts = node_row s.items k row.0 row.1.0 ∙ row.1.1 ∙ sym (last_node_is ts (cut x O) its_sub) in
      let its_kind = kind_row s.items k row.0 row.1.0 in
      let fits : deed_fits (last_kind ts) (item_kind_at k s.items) o.deed ≡ true =
      ap (λ (q : TreeKind). deed_fits q (item_kind_at k s.items) o.deed) (last_kind_is ts u last) ∙ ap (λ (q : Kind). deed_fits kind q o.deed) its_kind ∙ row.1.2 in
      let count = last_count_is ts (cut x O) its_sub in
      let some : length x.ops ≡ length O + suc (length os) = ap length (sym f) ∙ omega (arith, length-append O (o ∷ os)) in
      let ops : all_ops ts + 1 ≤ all_ops s.trees = subst (λ (z : List Tree). all_ops ts + 1 ≤ all_ops z) e (total-part op_total T Ts t u S X x (cut x O) O os o refl refl (sym f) refl) in
      let puts : trees_puts k ts + op_put k o ≤ trees_puts k s.trees =
      subst (λ (z : List Tree). trees_puts k ts + op_put k o ≤ trees_puts k z) e (total-part (put_total k) T Ts t u S X x (cut x O) O os o refl refl (sym f) refl) in
      let loads : trees_load k ts + op_load k o ≤ trees_load k s.trees =
      subst (λ (z : List Tree). trees_load k ts + op_load k o ≤ trees_load k z) e (total-part (load_total k) T Ts t u S X x (cut x O) O os o refl refl (sym f) refl) in
      let touched : kind ≡ trees.Strict → touch k u.subs ≡ false = λ strict.
      let all : ops_in t.subs ≡ ops_in u.subs ++ o ∷ (os ++ ops_in X) = all_ops_of S X x O os o f in
      let numbers : touched_items t.subs ≡ touched_items u.subs ++ k ∷ map (λ (p : SubOp). p.item.0) (os ++ ops_in X) =
      ap (map (λ (p : SubOp). p.item.0)) all ∙ map-append (λ (p : SubOp). p.item.0) (ops_in u.subs) (o ∷ (os ++ ops_in X)) in
      let new = distinct-front nat_eq nat_eq_equiv.symm (touched_items u.subs) (map (λ (p : SubOp). p.item.0) (os ++ ops_in X)) k (subst (IsDistinct nat_eq) numbers (tree.once strict)) in
      sym (any-map (nat_eq k) (λ (p : SubOp). p.item.0) (λ p. nat_eq p.item.0 k) (λ p. nat_eq_equiv.symm k p.item.0) (ops_in u.subs)) ∙ new in
      let once : has_touched k ts ≡ false = rw (last, has_touched) (untouched kind (touch k u.subs) touched) in
      record {
        range = in_range s.form o.deed (omega (arith, h.loads k within, load_same o k refl, loads)) wide;
        item = within;
        begun = refl;
        node = same_number (node_at k s.items) (last_node ts) node;
        kind = fits;
        room = or_from _ _ (or_from _ _ (lt-leb 16 (last_count ts) (omega (arith, sub.few))) (lt-leb 200000 (all_ops ts) (omega (arith, h.limited.ops))))
            (le-ltb 64 (trees_puts k ts + one_put o.deed) (omega (arith, h.limited.puts k within, put_same o k refl)));
        load = le-ltb (most_amount s.form) (load k (with_rows s ts rs true) + magnitude o.deed) (omega (arith, h.loads k within, load_same o k refl));
        once = once;
      }
    where
      same_number : (a b : ℕ) → a ≡ b → (a == b) ≡ true
      same_number a b e = grind (arith, common_steps)

      all_ops_of : (S X : List Sub) (x : Sub) (O os : List SubOp) (o : SubOp) → O ++ o ∷ os ≡ x.ops → ops_in (S ++ x ∷ X) ≡ ops_in (S ++ cut x O ∷ []) ++ o ∷ (os ++ ops_in X)
      all_ops_of S X x O os o f =
          let front : ops_in (S ++ cut x O ∷ []) ≡ ops_in S ++ O = ops-append S (cut x O ∷ []) ∙ ap (λ (ps : List SubOp). ops_in S ++ ps) (append-nil O) in
          ops-append S (x ∷ X)
          ∙ ap (λ (ps : List SubOp). ops_in S ++ (ps ++ ops_in X)) (sym f)
          ∙ ap (λ (ps : List SubOp). ops_in S ++ ps) (append_assoc O (o ∷ os) (ops_in X))
          ∙ sym (append_assoc (ops_in S) O (o ∷ (os ++ ops_in X)))
          ∙ ap (λ (ps : List SubOp). ps ++ o ∷ (os ++ ops_in X)) (sym front)

  -- the operations of a subtransaction
  ops_done : (T Ts : List Tree) (name : List ℕ) (kind : TreeKind) (S X : List Sub) (x : Sub) (O os : List SubOp) (rs : List ScriptRow)
      → T ++ tree_of name kind (S ++ x ∷ X) ∷ Ts ≡ s.trees → O ++ os ≡ x.ops
      → ops_added (with_rows s (T ++ tree_of name kind (S ++ cut x O ∷ []) ∷ []) rs true) os ≡ Ok (with_rows s (T ++ tree_of name kind (S ++ x ∷ []) ∷ []) rs true)
  ops_done T Ts name kind S X x O [] rs e f =
      ap (λ (os : List SubOp). Ok (with_rows s (T ++ tree_of name kind (S ++ cut x os ∷ []) ∷ []) rs true)) (sym (append-nil O) ∙ f)
  ops_done T Ts name kind S X x O (o ∷ os) rs e f =
      let u : Tree = tree_of name kind (S ++ cut x O ∷ []) in
      let st : ScriptData = with_rows s (T ++ u ∷ []) rs true in
      let tree = tree_here T Ts (tree_of name kind (S ++ x ∷ X)) e in
      let sub = sub_at_seam s.nodes s.items kind 0 S X x tree.subs in
      let here = all-seam (IsOp s.items kind x.node.0) O os o (subst (AllByRecursion (IsOp s.items kind x.node.0)) (sym f) sub.ops) in
      let row = row_of kind x.node.0 o (slice_get s.items o.item.0) here in
      let its_name = name_is s.items o.item.0 row.0 row.1.0 in
      let place : place_of (name_at o.item.0 s.items) s.items ≡ Some o.item.0 = ap (λ (n : List ℕ). place_of n s.items) its_name ∙ place_found s.items o.item.0 row.0 h.distinct_items row.1.0 in
      let passes = op_passes st (name_at o.item.0 s.items) o.item.0 o.deed place (may_add_op T Ts name kind S X x O os o rs e f) in
      let pushed : on_last (on_last_sub (push_op o)) (T ++ u ∷ []) ≡ T ++ tree_of name kind (S ++ cut x (O ++ o ∷ []) ∷ []) ∷ [] =
      on_last-seam (on_last_sub (push_op o)) T u ∙ ap (λ (xs : List Sub). T ++ tree_of name kind xs ∷ []) (on_last-seam (push_op o) S (cut x O)) in
      taken _ _ (λ t. ops_added t os) (passes ∙ ap (λ (ts : List Tree). Ok (with_rows s ts rs true)) pushed)
      ∙ ops_done T Ts name kind S X x (O ++ o ∷ []) os rs e (append_assoc O (o ∷ []) os ∙ f)

  -- the other subtransactions of a tree

  may_add_sub : (T Ts : List Tree) (name : List ℕ) (kind : TreeKind) (S X : List Sub) (x : Sub) (rs : List ScriptRow) → T ++ tree_of name kind (S ++ x ∷ X) ∷ Ts ≡ s.trees → 0 < length S
      → MayAddSub (with_rows s (T ++ tree_of name kind S ∷ []) rs true) x.parent.0 x.node
  may_add_sub T Ts name kind S X x rs e some =
      let t : Tree = tree_of name kind (S ++ x ∷ X) in
      let u : Tree = tree_of name kind S in
      let ts : List Tree = T ++ u ∷ [] in
      let tree = tree_here T Ts t e in
      let sub = sub_at_seam s.nodes s.items kind 0 S X x tree.subs in
      let last : last_of ts ≡ Some u = last_of-seam T u in
      let count = last_subs_is ts u last in
      let len = length-append S (x ∷ X) in
      let subs : all_subs s.trees ≡ all_subs T + (length t.subs + all_subs Ts) = ap all_subs (sym e) ∙ sum-append (λ (v : Tree). length v.subs) all_subs all_subs-sum T (t ∷ Ts) in
      let subs_now = sum-push (λ (v : Tree). length v.subs) all_subs all_subs-sum T u in
      let strict : strict_trees s.trees ≡ strict_trees T + (one_if (is_strict kind) + strict_trees Ts) = ap strict_trees (sym e) ∙ sum-append (λ (v : Tree). one_if (is_strict v.kind)) strict_trees strict-sum T (t ∷ Ts) in
      let strict_now = sum-push (λ (v : Tree). one_if (is_strict v.kind)) strict_trees strict-sum T u in
      let updates : update_subs s.trees ≡ update_subs T + (if_update kind (length t.subs) + update_subs Ts) =
      ap update_subs (sym e) ∙ sum-append (λ (v : Tree). if_update v.kind (length v.subs)) update_subs update-sum T (t ∷ Ts) in
      let updates_now = sum-push (λ (v : Tree). if_update v.kind (length v.subs)) update_subs update-sum T u in
      let grown = update_grown kind (length S) (length t.subs) (omega arith) in
      let one : if_update (last_kind ts) 1 ≡ if_update kind 1 = ap (λ (q : TreeKind). if_update q 1) (last_kind_is ts u last) in
      let pairs = mul-le (strict_trees ts) (update_subs ts + if_update (last_kind ts) 1) (strict_trees s.trees) (update_subs s.trees) (omega arith) (omega arith) in
      record {
        place = lt-leb s.nodes x.node.0 sub.node;
        begun = refl;
        earlier = lt-leb (last_subs ts) x.parent.0 (omega (arith, sub.parent));
        room = or_from _ _ (or_from _ _ (lt-leb 64 (last_subs ts) (omega (arith, tree.few))) (lt-leb 100000 (all_subs ts) (omega (arith, h.limited.subs))))
            (le-ltb 1000000 (strict_trees ts * (update_subs ts + if_update (last_kind ts) 1)) (omega (arith, pairs, h.limited.pairs)));
      }

  subs_done : (T Ts : List Tree) (name : List ℕ) (kind : TreeKind) (S X : List Sub) (rs : List ScriptRow) → T ++ tree_of name kind (S ++ X) ∷ Ts ≡ s.trees → 0 < length S
      → subs_added (with_rows s (T ++ tree_of name kind S ∷ []) rs true) X ≡ Ok (with_rows s (T ++ tree_of name kind (S ++ X) ∷ []) rs true)
  subs_done T Ts name kind S [] rs e some = ap (λ (xs : List Sub). Ok (with_rows s (T ++ tree_of name kind xs ∷ []) rs true)) (sym (append-nil S))
  subs_done T Ts name kind S (x ∷ X) rs e some =
      let u : Tree = tree_of name kind S in
      let st : ScriptData = with_rows s (T ++ u ∷ []) rs true in
      let passes = sub_passes st x.parent.0 x.node (may_add_sub T Ts name kind S X x rs e some) in
      let pushed = on_last-seam (push_sub (cut x [])) T u in
      let next : List Sub → Result ScriptData Why = λ (done : List Sub). Ok (with_rows s (T ++ tree_of name kind done ∷ []) rs true) in
      let regrouped : (S ++ x ∷ []) ++ X ≡ S ++ x ∷ X = append_assoc S (x ∷ []) X in
      let same : T ++ tree_of name kind ((S ++ x ∷ []) ++ X) ∷ Ts ≡ s.trees = ap (λ (xs : List Sub). T ++ tree_of name kind xs ∷ Ts) regrouped ∙ e in
      taken _ _ (λ t. then_more (ops_added t x.ops) (λ v. subs_added v X)) (passes ∙ ap (λ (ts : List Tree). Ok (with_rows s ts rs true)) pushed)
      ∙ taken _ _ (λ v. subs_added v X) (ops_done T Ts name kind S X x [] x.ops rs e refl)
      ∙ subs_done T Ts name kind (S ++ x ∷ []) X rs same (omega (arith, length-append S (x ∷ [])))
      ∙ ap next regrouped

  -- a tree

  may_add_tree : (T Ts : List Tree) (name : List ℕ) (kind : TreeKind) (x : Sub) (X : List Sub) (rs : List ScriptRow) (b : Bool) → T ++ tree_of name kind (x ∷ X) ∷ Ts ≡ s.trees
      → MayAddTree (with_rows s T rs b) name kind x.node
  may_add_tree T Ts name kind x X rs b e =
      let t : Tree = tree_of name kind (x ∷ X) in
      let tree = tree_here T Ts t e in
      let names : tree_names s.trees ≡ tree_names T ++ name ∷ tree_names Ts = ap tree_names (sym e) ∙ map-append (λ (v : Tree). v.name) T (t ∷ Ts) in
      let new : list_any (bytes_eq name) (tree_names T) ≡ false =
      distinct-front bytes_eq nat_list_eq_equiv.symm (tree_names T) (tree_names Ts) name (subst (IsDistinct bytes_eq) names h.distinct_trees) in
      let len : length s.trees ≡ length T + suc (length Ts) = ap length (sym e) ∙ omega (arith, length-append T (t ∷ Ts)) in
      let subs : all_subs s.trees ≡ all_subs T + (length t.subs + all_subs Ts) = ap all_subs (sym e) ∙ sum-append (λ (v : Tree). length v.subs) all_subs all_subs-sum T (t ∷ Ts) in
      let strict : strict_trees s.trees ≡ strict_trees T + (one_if (is_strict kind) + strict_trees Ts) = ap strict_trees (sym e) ∙ sum-append (λ (v : Tree). one_if (is_strict v.kind)) strict_trees strict-sum T (t ∷ Ts) in
      let updates : update_subs s.trees ≡ update_subs T + (if_update kind (length t.subs) + update_subs Ts) =
      ap update_subs (sym e) ∙ sum-append (λ (v : Tree). if_update v.kind (length v.subs)) update_subs update-sum T (t ∷ Ts) in
      let grown = update_grown kind 0 (length t.subs) (omega arith) in
      let places = mul-le s.nodes (length T + 1) s.nodes (length s.trees) (omega arith) (omega arith) in
      let pairs = mul-le (strict_trees T + one_if (is_strict kind)) (update_subs T + if_update kind 1) (strict_trees s.trees) (update_subs s.trees) (omega arith) (omega arith) in
      record {
        place = lt-leb s.nodes x.node.0 tree.subs.0.node;
        plain = tree.name;
        free = sym (has_tree name T) ∙ new;
        room = or_from _ _ (or_from _ _ (or_from _ _ (or_from _ _ (lt-leb 20000 (length T) (omega (arith, h.few_trees)))
            (le-ltb 320000 (s.nodes * (length T + 1)) (omega (arith, places, h.limited.places)))) (lt-leb 100000 (all_subs T) (omega (arith, h.limited.subs))))
            (le-ltb 1000 (strict_trees T + one_if (is_strict kind)) (omega (arith, h.limited.strict))))
            (le-ltb 1000000 ((strict_trees T + one_if (is_strict kind)) * (update_subs T + if_update kind 1)) (omega (arith, pairs, h.limited.pairs)));
      }

  rooted_done : (T Ts : List Tree) (name : List ℕ) (kind : TreeKind) (subs : List Sub) (rs : List ScriptRow) (b : Bool) → T ++ tree_of name kind subs ∷ Ts ≡ s.trees
      → rooted_added (with_rows s T rs b) name kind subs ≡ Ok (with_rows s (T ++ tree_of name kind subs ∷ []) (rs ++ rows.Tree (record { 0 = length T }) ∷ []) true)
  rooted_done T Ts name kind [] rs b e = absurd (omega (arith, (tree_here T Ts (tree_of name kind []) e).root))
  rooted_done T Ts name kind (x ∷ X) rs b e =
      let after : List ScriptRow = rs ++ rows.Tree (record { 0 = length T }) ∷ [] in
      let passes = tree_passes (with_rows s T rs b) name kind x.node (may_add_tree T Ts name kind x X rs b e) in
      let tree = tree_here T Ts (tree_of name kind (x ∷ X)) e in
      let root : record { parent = record { 0 = 0 }; node = x.node; ops = [] } ≡ cut x [] = rooted_as x (tree.subs.0.root refl) in
      taken _ _ (λ t. then_more (ops_added t x.ops) (λ v. subs_added v X)) (passes ∙ ap (λ (y : Sub). Ok (with_rows s (T ++ tree_of name kind (y ∷ []) ∷ []) after true)) root)
      ∙ taken _ _ (λ v. subs_added v X) (ops_done T Ts name kind [] X x [] x.ops after e refl)
      ∙ subs_done T Ts name kind (x ∷ []) X after e (omega arith)
    where
      rooted_as : (x : Sub) → x.parent.0 ≡ 0 → (let y : Sub = record { parent = record { 0 = 0 }; node = x.node; ops = [] } in y) ≡ cut x []
      rooted_as x e = ap (λ (p : ℕ). let y : Sub = record { parent = record { 0 = p }; node = x.node; ops = [] } in y) (sym e)

-- rows

pub advances_in-append : (xs ys : List ScriptRow) → advances_in (xs ++ ys) ≡ advances_in xs + advances_in ys
advances_in-append [] ys = omega arith
advances_in-append (x ∷ xs) ys = omega (arith, advances_in-append xs ys)

pub loses_in-append : (xs ys : List ScriptRow) → loses_in (xs ++ ys) ≡ loses_in xs + loses_in ys
loses_in-append [] ys = omega arith
loses_in-append (x ∷ xs) ys = omega (arith, loses_in-append xs ys)

no_more : {A : Type 0} (xs ys : List A) → length xs ≡ length (xs ++ ys) → xs ≡ xs ++ ys
no_more xs [] e = sym (append-nil xs)
no_more xs (y ∷ ys) e = absurd (omega (arith, length-append xs (y ∷ ys)))

-- the rows of n trees, from number k on
abbrev numbered : ℕ → ℕ → List ScriptRow
numbered k zero = []
numbered k (suc n) = rows.Tree (record { 0 = k }) ∷ numbered (k + 1) n

numbered_names : (k n : ℕ) → NamesInOrder k (k + n) (numbered k n)
numbered_names k zero = omega arith
numbered_names k (suc n) =
    let same : k + 1 + n ≡ k + suc n = omega arith in
    (refl, subst (λ (m : ℕ). NamesInOrder (k + 1) m (numbered (k + 1) n)) same (numbered_names (k + 1) n))

numbered_plain : (k n : ℕ) → (advances_in (numbered k n) ≡ 0) × (loses_in (numbered k n) ≡ 0)
numbered_plain k zero = (refl, refl)
numbered_plain k (suc n) = let rest = numbered_plain (k + 1) n in (omega arith, omega arith)

-- a tree by its parts and what it was written as
abbrev tree_as : ScriptData → List ℕ → TreeKind → List Sub → Option Written → Result ScriptData Why
tree_as s name kind subs w =
    then_more (rooted_added s name kind (elim w [ None ↦ subs | Some v ↦ v.subs ])) (λ u. fail_added u w)

module _ (s : ScriptData) (h : IsValid s) where
  advance_taken : (T : List Tree) (R rest : List ScriptRow) (b : Bool) → R ++ rows.Advance ∷ rest ≡ s.rows → adds_advance (with_rows s T R b) ≡ Ok (with_rows s T (R ++ rows.Advance ∷ []) false)
  advance_taken T R rest b e =
      let some : advances_in s.rows ≡ advances_in R + (1 + advances_in rest) = ap advances_in (sym e) ∙ advances_in-append R (rows.Advance ∷ rest) in
      let few : nat_le 100 (advances_in R) ≡ false = lt-leb 100 (advances_in R) (omega (arith, h.limited.advances)) in
      rw few refl

  lose_taken : (T : List Tree) (R rest : List ScriptRow) (b : Bool) → R ++ rows.Lose ∷ rest ≡ s.rows → adds_lose (with_rows s T R b) ≡ Ok (with_rows s T (R ++ rows.Lose ∷ []) false)
  lose_taken T R rest b e =
      let some : loses_in s.rows ≡ loses_in R + (1 + loses_in rest) = ap loses_in (sym e) ∙ loses_in-append R (rows.Lose ∷ rest) in
      let few : nat_le 100 (loses_in R) ≡ false = lt-leb 100 (loses_in R) (omega (arith, h.limited.loses)) in
      rw few refl

  -- the script with the first of its trees alone, the last of them as it was before it failed
  before_failing : (T Ts : List Tree) (t : Tree) (w : Written) → T ++ t ∷ Ts ≡ s.trees → HasFailed s.form s.nodes s.items T t w
      → IsValid (with_rows s (T ++ as_written t w ∷ []) (numbered 0 (length (T ++ as_written t w ∷ []))) true)
  before_failing T Ts t w e f =
      let u : Tree = as_written t w in
      let ts : List Tree = T ++ u ∷ [] in
      let n = length ts in
      let len : n ≡ length T + 1 = omega (arith, length-append T (u ∷ [])) in
      let all : length s.trees ≡ length T + suc (length Ts) = ap length (sym e) ∙ omega (arith, length-append T (t ∷ Ts)) in
      let every = subst (AllByRecursion (IsTree s.nodes s.items)) (sym e) h.trees in
      let names : tree_names s.trees ≡ tree_names ts ++ tree_names Ts =
      ap tree_names (sym e)
      ∙ map-append (λ (v : Tree). v.name) T (t ∷ Ts)
      ∙ sym (ap (λ (ns : List (List ℕ)). ns ++ tree_names Ts) (map-append (λ (v : Tree). v.name) T (u ∷ [])) ∙ append_assoc (tree_names T) (t.name ∷ []) (tree_names Ts)) in
      let strict : strict_trees s.trees ≡ strict_trees T + (one_if (is_strict t.kind) + strict_trees Ts) = ap strict_trees (sym e) ∙ sum-append (λ (v : Tree). one_if (is_strict v.kind)) strict_trees strict-sum T (t ∷ Ts) in
      let strict_now = sum-push (λ (v : Tree). one_if (is_strict v.kind)) strict_trees strict-sum T u in
      let places = mul-le s.nodes n s.nodes (length s.trees) (omega arith) (omega arith) in
      let zero_first : 0 + n ≡ n = omega arith in
      record {
        some_nodes = h.some_nodes;
        few_nodes = h.few_nodes;
        few_items = h.few_items;
        few_trees = omega (arith, h.few_trees);
        items = h.items;
        trees = all-push (IsTree s.nodes s.items) T u (all-before (IsTree s.nodes s.items) T (t ∷ Ts) every) f.tree;
        loads = f.within.loads;
        rows = subst (λ (m : ℕ). NamesInOrder 0 m (numbered 0 n)) zero_first (numbered_names 0 n);
        begun = λ _. omega arith;
        distinct_items = h.distinct_items;
        distinct_trees = distinct-before bytes_eq (tree_names ts) (tree_names Ts) (subst (IsDistinct bytes_eq) names h.distinct_trees);
        limited = record {
          subs = f.within.subs;
          ops = f.within.ops;
          puts = f.within.puts;
          advances = omega (arith, numbered_plain 0 n);
          loses = omega (arith, numbered_plain 0 n);
          strict = omega (arith, h.limited.strict);
          pairs = f.within.pairs;
          places = omega (arith, places, h.limited.places);
        };
        first_form = λ _. (numbered_plain 0 n).1;
        unfailed = λ _. last_written_is ts u (last_of-seam T u);
        failed = failed-push s.form s.nodes s.items [] T u (failed-front s.form s.nodes s.items [] T (t ∷ Ts) (subst (MayAllHaveFailed s.form s.nodes s.items []) (sym e) h.failed)) tt;
      }

  -- so many trees pass no limit
  uncrowded : (T Ts : List Tree) (t : Tree) → T ++ t ∷ Ts ≡ s.trees → are_crowded (T ++ t ∷ []) ≡ false
  uncrowded T Ts t e =
      let ts : List Tree = T ++ t ∷ [] in
      let count = last_subs_is ts t (last_of-seam T t) in
      let subs : all_subs s.trees ≡ all_subs T + (length t.subs + all_subs Ts) = ap all_subs (sym e) ∙ sum-append (λ (v : Tree). length v.subs) all_subs all_subs-sum T (t ∷ Ts) in
      let subs_now = sum-push (λ (v : Tree). length v.subs) all_subs all_subs-sum T t in
      let ops : all_ops s.trees ≡ all_ops T + (subs_ops t.subs + all_ops Ts) = ap all_ops (sym e) ∙ sum-append (λ (v : Tree). subs_ops v.subs) all_ops op_total.trees T (t ∷ Ts) in
      let ops_now = sum-push (λ (v : Tree). subs_ops v.subs) all_ops op_total.trees T t in
      let strict : strict_trees s.trees ≡ strict_trees T + (one_if (is_strict t.kind) + strict_trees Ts) = ap strict_trees (sym e) ∙ sum-append (λ (v : Tree). one_if (is_strict v.kind)) strict_trees strict-sum T (t ∷ Ts) in
      let strict_now = sum-push (λ (v : Tree). one_if (is_strict v.kind)) strict_trees strict-sum T t in
      let updates : update_subs s.trees ≡ update_subs T + (if_update t.kind (length t.subs) + update_subs Ts) =
      ap update_subs (sym e) ∙ sum-append (λ (v : Tree). if_update v.kind (length v.subs)) update_subs update-sum T (t ∷ Ts) in
      let updates_now = sum-push (λ (v : Tree). if_update v.kind (length v.subs)) update_subs update-sum T t in
      let pairs = mul-le (strict_trees ts) (update_subs ts) (strict_trees s.trees) (update_subs s.trees) (omega arith) (omega arith) in
      crowded_not ts (omega (arith, (tree_here s h T Ts t e).few)) (omega (arith, h.limited.subs)) (omega (arith, h.limited.ops)) (omega (arith, pairs, h.limited.pairs))

  -- so many trees are not too heavy
  unheavy : (T Ts : List Tree) (t : Tree) (rs : List ScriptRow) (b : Bool) → T ++ t ∷ Ts ≡ s.trees → is_heavy (with_rows s (T ++ t ∷ []) rs b) ≡ false
  unheavy T Ts t rs b e = none_any (λ (x : ℕ). nat_lt (most_amount s.form) (load x (with_rows s (T ++ t ∷ []) rs b))) 0 (length s.items) (λ x from lt.
      let all : trees_load x s.trees ≡ trees_load x T + (subs_load x t.subs + trees_load x Ts) = ap (trees_load x) (sym e) ∙ sum-append (λ (v : Tree). subs_load x v.subs) (trees_load x) (load_total x).trees T (t ∷ Ts) in
      let now = sum-push (λ (v : Tree). subs_load x v.subs) (trees_load x) (load_total x).trees T t in
      le-ltb (most_amount s.form) (load x (with_rows s (T ++ t ∷ []) rs b)) (omega (arith, h.loads x (omega arith))))

  -- a tree that was written as w
  written_done : (T Ts : List Tree) (t : Tree) (rs : List ScriptRow) (b : Bool) (w : Option Written) → t.written ≡ w → T ++ t ∷ Ts ≡ s.trees → MayHaveFailed s.form s.nodes s.items T t w
      → (c : Bool) × (tree_as (with_rows s T rs b) t.name t.kind t.subs w ≡ Ok (with_rows s (T ++ t ∷ []) (rs ++ rows.Tree (record { 0 = length T }) ∷ []) c))
  written_done T Ts t rs b None is e f =
      let after : List ScriptRow = rs ++ rows.Tree (record { 0 = length T }) ∷ [] in
      let same : tree_of t.name t.kind t.subs ≡ t = ap (λ (w : Option Written). let v : Tree = record { name = t.name; kind = t.kind; subs = t.subs; written = w } in v) (sym is) in
      let here : T ++ tree_of t.name t.kind t.subs ∷ Ts ≡ s.trees = ap (λ (v : Tree). T ++ v ∷ Ts) same ∙ e in (
        true,
        taken _ _ (λ u. fail_added u None) (rooted_done s h T Ts t.name t.kind t.subs rs b here)
            ∙ ap (λ (v : Tree). Ok (with_rows s (T ++ v ∷ []) after true)) same,
      )
  written_done T Ts t rs b (Some w) is e f =
      let after : List ScriptRow = rs ++ rows.Tree (record { 0 = length T }) ∷ [] in
      let u : Tree = as_written t w in
      let k = w.failed.0 in
      let ts : List Tree = T ++ u ∷ [] in
      let then : ScriptData = with_rows s ts (numbered 0 (length ts)) true in
      let st : ScriptData = with_rows s ts after true in
      let undone_now : failed_tree k u ≡ t =
      ap (λ (ss : List Sub). let v : Tree = record { name = t.name; kind = t.kind; subs = ss; written = Some w } in v) (sym f.subs)
      ∙ ap (λ (x : Option Written). let v : Tree = record { name = t.name; kind = t.kind; subs = t.subs; written = x } in v) (sym is) in
      let changed : on_last (failed_tree k) ts ≡ T ++ t ∷ [] = on_last-seam (failed_tree k) T u ∙ ap (λ (v : Tree). T ++ v ∷ []) undone_now in
      let last = last_of-seam T u in
      let may : may_fail u ≡ true = may_fail_is u f.update f.adds in
      let passes = fail_passes st k refl (omega (arith, f.failed, last_subs_is ts u last)) (last_may_fail_is ts u last ∙ may)
      (ap are_crowded changed ∙ uncrowded T Ts t e) (ap (λ (x : List Tree). is_heavy (with_rows s x after false)) changed ∙ unheavy T Ts t after false e) in (
        false,
        taken _ _ (λ v. fail_added v (Some w)) (rooted_done then (before_failing T Ts t w e f) T [] t.name t.kind w.subs rs b refl)
            ∙ passes
            ∙ ap (λ (x : List Tree). Ok (with_rows s x after false)) changed,
      )

  tree_taken : (T Ts : List Tree) (R : List ScriptRow) (b : Bool) (n : TreeNo) → T ++ Ts ≡ s.trees → n.0 ≡ length T → length T < length s.trees
      → (t : Tree) × (us : List Tree) × (c : Bool) × ((Ts ≡ t ∷ us) × (row_added s.trees (with_rows s T R b) (rows.Tree n) ≡ Ok (with_rows s (T ++ t ∷ []) (R ++ rows.Tree n ∷ []) c)))
  tree_taken T [] R b n e at more = absurd (omega (arith, ap length e, length-append T []))
  tree_taken T (t ∷ us) R b n e at more =
      let here : slice_get s.trees n.0 ≡ Some t = ap (slice_get s.trees) at ∙ ap (λ (ts : List Tree). slice_get ts (length T)) (sym e) ∙ slice_get-seam T us t in
      let number : rows.Tree (record { 0 = length T }) ≡ rows.Tree n = ap (λ (k : ℕ). let m : TreeNo = record { 0 = k } in rows.Tree m) (sym at) in
      let failed = failed-seam s.form s.nodes s.items [] T us t (subst (MayAllHaveFailed s.form s.nodes s.items []) (sym e) h.failed) in
      let done = written_done T us t R b t.written refl e failed in (
        t,
        us,
        done.0,
        (
          refl,
          ap (tree_added (with_rows s T R b)) here
              ∙ done.1
              ∙ ap (λ (r : ScriptRow). Ok (with_rows s (T ++ t ∷ []) (R ++ r ∷ []) done.0)) number,
        ),
      )

  rows_done : (T Ts : List Tree) (R rest : List ScriptRow) (b : Bool) → T ++ Ts ≡ s.trees → R ++ rest ≡ s.rows → NamesInOrder (length T) (length s.trees) rest
      → (c : Bool) × (rows_added s.trees (with_rows s T R b) rest ≡ Ok (with_rows s s.trees s.rows c))
  rows_done T Ts R [] b e f names =
      let all : T ≡ s.trees = no_more T Ts (names ∙ ap length (sym e)) ∙ e in
      let every : R ≡ s.rows = sym (append-nil R) ∙ f in
      (b, ap (λ (ts : List Tree). Ok (with_rows s ts R b)) all ∙ ap (λ (rs : List ScriptRow). Ok (with_rows s s.trees rs b)) every)
  rows_done T Ts R (rows.Tree n ∷ rest) b e f names =
      let step = tree_taken T Ts R b n e names.0 (omega (arith, names_end (length T + 1) (length s.trees) rest names.1)) in
      let t = step.0 in
      let us = step.1 in
      let parts : T ++ t ∷ us ≡ s.trees = ap (λ (ts : List Tree). T ++ ts) (sym step.3.0) ∙ e in
      let len : length (T ++ t ∷ []) ≡ length T + 1 = omega (arith, length-append T (t ∷ [])) in
      let later : NamesInOrder (length (T ++ t ∷ [])) (length s.trees) rest = subst (λ (k : ℕ). NamesInOrder k (length s.trees) rest) (sym len) names.1 in
      let more = rows_done (T ++ t ∷ []) us (R ++ rows.Tree n ∷ []) rest step.2 (append_assoc T (t ∷ []) us ∙ parts) (append_assoc R (rows.Tree n ∷ []) rest ∙ f) later in
      (more.0, taken _ _ (λ u. rows_added s.trees u rest) step.3.1 ∙ more.1)
  rows_done T Ts R (rows.Advance ∷ rest) b e f names =
      let more = rows_done T Ts (R ++ rows.Advance ∷ []) rest false e (append_assoc R (rows.Advance ∷ []) rest ∙ f) names in
      (more.0, taken _ _ (λ u. rows_added s.trees u rest) (advance_taken T R rest b f) ∙ more.1)
  rows_done T Ts R (rows.Settle ∷ rest) b e f names =
      let more = rows_done T Ts (R ++ rows.Settle ∷ []) rest false e (append_assoc R (rows.Settle ∷ []) rest ∙ f) names in
      (more.0, more.1)
  rows_done T Ts R (rows.Lose ∷ rest) b e f names =
      let more = rows_done T Ts (R ++ rows.Lose ∷ []) rest false e (append_assoc R (rows.Lose ∷ []) rest ∙ f) names in
      (more.0, taken _ _ (λ u. rows_added s.trees u rest) (lose_taken T R rest b f) ∙ more.1)

  -- picks

  picks_done : (P rest : List ℕ) (b : Bool) → P ++ rest ≡ s.picks → (c : Bool) × (picks_added (record s { picks = P; begun = b }) rest ≡ Ok (record s { begun = c }))
  picks_done P [] b e = (b, ap (λ (ks : List ℕ). Ok (let u : ScriptData = record s { picks = ks; begun = b } in u)) (sym (append-nil P) ∙ e))
  picks_done P (k ∷ rest) b e =
      let more = picks_done (P ++ k ∷ []) rest false (append_assoc P (k ∷ []) rest ∙ e) in
      (more.0, more.1)

  -- all of it
  pub is_rebuilt : RebuiltAs s
  is_rebuilt =
      let done = rows_done [] s.trees [] s.rows false refl refl h.rows in
      let picked = picks_done [] s.picks done.0 refl in
      let last : ScriptData = record s { begun = picked.0 } in
      let built : rebuilt s ≡ Ok last =
      taken _ _ (λ t. then_more (rows_added s.trees t s.rows) (λ u. picks_added u s.picks)) (items_done s h [] s.items refl)
      ∙ taken _ _ (λ u. picks_added u s.picks) done.1
      ∙ picked.1 in
      (last, built, record { form = refl; nodes = refl; items = refl; trees = refl; rows = refl; picks = refl })

-- some of the rows ask for no more advancements than all
pub asked_most : (n : ℕ) (rows : List ScriptRow) → advances_in (take n rows) ≤ advances_in rows
asked_most n rows =
    omega (arith, advances_in-append (take n rows) (drop n rows), ap advances_in (take-append-drop n rows))
