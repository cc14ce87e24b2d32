-- What is written of a script is read as the same script.
use Rattle.std.proofs.Common.{◌≡◌, ◌+◌, ◌<◌, ◌≤◌, ◌∙◌, ◌++◌, ℕ, zero, suc, false, List, [], ◌∷◌, length, map, Result, Ok, Err, refl, sym, ap, subst, arith, append_assoc}
use Rattle.std.specs.Prelude.{IsTrue, nat_lt, Option, Some, None, slice_get}
use Rattle.std.specs.List.{AllByRecursion}
use Rattle.std.proofs.lemmas.Bool.{lt-leb}
use Rattle.std.proofs.lemmas.List.{append-nil}
use Rattle.csv.specs.Reading.{default_config, records_from, strip_bom}
use Rattle.csv.specs.declared.parser.State.TheVariants as st
use Rattle.tx_trees.proofs.Rebuilding.{is_rebuilt}
use Rattle.tx_trees.proofs.SubsOf.{few_nodes}
use Rattle.tx_trees.specs.Adding.{adds_advance, adds_item, adds_lose, adds_op, adds_pick, adds_settle, adds_sub, adds_tree, fresh}
use Rattle.tx_trees.specs.Counts.{loses_in}
use Rattle.tx_trees.specs.Forms.{most_nodes}
use Rattle.tx_trees.specs.Ranges.{is_in_range}
use Rattle.tx_trees.specs.Rebuilt.{fail_added, written_subs, items_added, name_at, ops_added, picks_added, rebuilt, rooted_added, rows_added, subs_added, then_more, tree_added}
use Rattle.tx_trees.specs.ScriptData.{ScriptData}
use Rattle.tx_trees.specs.Valid.{AreSubs, IsItem, IsOp, IsValid}
use Rattle.tx_trees.specs.declared.parts.Form.{Form}
use Rattle.tx_trees.specs.declared.parts.Form.TheVariants as forms
use Rattle.tx_trees.specs.declared.parts.ItemRow.{ItemRow}
use Rattle.tx_trees.specs.declared.parts.ScriptRow.{ScriptRow}
use Rattle.tx_trees.specs.declared.parts.ScriptRow.TheVariants as rows
use Rattle.tx_trees.specs.declared.parts.Sub.{Sub}
use Rattle.tx_trees.specs.declared.parts.SubOp.{SubOp}
use Rattle.tx_trees.specs.declared.parts.Tree.{Tree}
use Rattle.tx_trees.specs.declared.parts.TreeKind.{TreeKind}
use Rattle.tx_trees.specs.declared.parts.Written.{Written}
use Rattle.tx_trees.proofs.Undoing.{WrittenTree, written_trees}
use Rattle.tx_trees.specs.declared.why.Why.{Why}
use Rattle.script_reader.specs.inside.Numbers.{AreOf32Bits}
use Rattle.script_reader.specs.ReadBack.{IsReadAs}
use Rattle.script_reader.specs.Reading.{read_of, read_rows, rows_from, second_rows, then_rows}
use Rattle.std.specs.Option.{option_map_or}
use Rattle.script_reader.specs.Records.{records_in}
use Rattle.script_reader.specs.Rows.{later_row}
use Rattle.script_reader.specs.Written.{fail_fields, fail_rows, form_rows, lines, item_fields, nodes_fields, op_fields, ops_rows, pick_fields, rows_of, rows_of_rows, rows_of_tree, sub_fields, subs_rows, tree_fields, tree_rows, written}
use Rattle.script_reader.proofs.Added.{advance_is, fail_is, item_is, lose_is, op_in_range, op_taken, settle_is, sub_is, tree_is}
use Rattle.script_reader.proofs.Lines.{few_lines, lines_read}
use Rattle.script_reader.proofs.PlainRows.{all_plain, op_named, small_deed}
use Rattle.script_reader.proofs.RowsBack.{deed_back, fail_back, item_back, lose_back, nodes_back, pick_back, second_nodes_back, sub_back, tree_back}
use Rattle.script_reader.proofs.Script.{ends, goes_on}

-- these rows, read from script u on, give v, whatever row comes next
abbrev Reads : ScriptData → List (List (List ℕ)) → ScriptData → Type 0
Reads u rs v = (at : ℕ) (more : List (List (List ℕ))) → (k : ℕ) × (rows_from u at (rs ++ more) ≡ rows_from v k more)

-- no rows
reads_none : (u v : ScriptData) → u ≡ v → Reads u [] v
reads_none u v h at more = (at, ap (λ (w : ScriptData). rows_from w at more) h)

-- one row before others
reads_one : (u v w : ScriptData) (r : List (List ℕ)) (rs : List (List (List ℕ))) → later_row u r ≡ Ok v → Reads v rs w → Reads u (r ∷ rs) w
reads_one u v w r rs one rest at more = let next = rest (at + 1) more in (next.0, goes_on u v at (r ∷ (rs ++ more)) r (rs ++ more) refl one ∙ next.1)

-- rows before others
reads_both : (u v w : ScriptData) (xs ys : List (List (List ℕ))) → Reads u xs v → Reads v ys w → Reads u (xs ++ ys) w
reads_both u v w xs ys first second at more =
    let a = first at (ys ++ more) in
    let b = second a.0 more in
    (b.0, ap (rows_from u at) (append_assoc xs ys more) ∙ a.1 ∙ b.1)

-- a row that was taken, and then the others
record Goes (x : Result ScriptData Why) (more : ScriptData → Result ScriptData Why) (v : ScriptData) : Type 0 where
  first : ScriptData
  is : x ≡ Ok first
  rest : more first ≡ Ok v

-- what was taken was taken step by step
goes : (x : Result ScriptData Why) (more : ScriptData → Result ScriptData Why) (v : ScriptData) → then_more x more ≡ Ok v → Goes x more v
goes (Ok s) more v h = record { first = s; is = refl; rest = h }
goes (Err w) more v h = absurd (cc h)

-- these rows, read from u on, give v with the same items and the same form
record Gives (items : List ItemRow) (u : ScriptData) (rs : List (List (List ℕ))) (v : ScriptData) : Type 0 where
  reads : Reads u rs v
  items_stay : v.items ≡ items
  form_stays : v.form ≡ u.form

-- all items
items_back : (n : ℕ) (items : List ItemRow) (u v : ScriptData) → n ≤ 64 → AllByRecursion (IsItem n) items → items_added u items ≡ Ok v → Reads u (map item_fields items) v
items_back n [] u v few all h = reads_none u v (cc h)
items_back n (r ∷ rs) u v few all h =
    let g = goes (adds_item u r) (λ t. items_added t rs) v h in
    reads_one u g.first v (item_fields r) (map item_fields rs) (item_back u n r few all.0 ∙ g.is) (items_back n rs g.first v few all.1 g.rest)

-- the operations of a subtransaction
record AreOps (n : ℕ) (items : List ItemRow) (kind : TreeKind) (node : ℕ) (os : List SubOp) : Type 0 where
  all : AllByRecursion (IsItem n) items
  ops : AllByRecursion (IsOp items kind node) os
  amounts : AllByRecursion (λ (o : SubOp). IsTrue (is_in_range forms.Two o.deed)) os

-- an operation leaves the items
op_items : (u v : ScriptData) (name : List ℕ) (o : SubOp) → adds_op u name o.deed ≡ Ok v → v.items ≡ u.items
op_items u v name o h = let t = op_taken u v name o.deed h in sym (ap (λ (w : ScriptData). w.items) t.is)

-- nor does it change the form
op_form : (u v : ScriptData) (name : List ℕ) (o : SubOp) → adds_op u name o.deed ≡ Ok v → v.form ≡ u.form
op_form u v name o h = let t = op_taken u v name o.deed h in sym (ap (λ (w : ScriptData). w.form) t.is)

-- all operations of a subtransaction
ops_back : (n : ℕ) (items : List ItemRow) (kind : TreeKind) (node : ℕ) (os : List SubOp) (u v : ScriptData) → AreOps n items kind node os → u.items ≡ items → ops_added u os ≡ Ok v → Gives items u (ops_rows items os) v
ops_back n items kind node [] u v all same h = let e : u ≡ v = cc h in record { reads = reads_none u v e; items_stay = sym (ap (λ (w : ScriptData). w.items) e) ∙ same; form_stays = sym (ap (λ (w : ScriptData). w.form) e) }
ops_back n items kind node (o ∷ os) u v a same h =
    let g = goes (adds_op u (name_at o.item.0 u.items) o.deed) (λ t. ops_added t os) v h in
    let name = name_at o.item.0 items in
    let added : adds_op u name o.deed ≡ Ok g.first = ap (λ (xs : List ItemRow). adds_op u (name_at o.item.0 xs) o.deed) (sym same) ∙ g.is in
    let row = deed_back u name o.deed (op_named n items o.item.0 kind node o a.all a.ops.0) (op_in_range u g.first name o.deed added) (small_deed o.deed a.amounts.0) in
    let rest = ops_back n items kind node os g.first v (record { all = a.all; ops = a.ops.1; amounts = a.amounts.1 }) (op_items u g.first name o added ∙ same) g.rest in
    record { reads = reads_one u g.first v (op_fields items o) (ops_rows items os) (row ∙ added) rest.reads; items_stay = rest.items_stay; form_stays = rest.form_stays ∙ op_form u g.first name o added }

-- the subtransactions after the root
subs_back : (n : ℕ) (items : List ItemRow) (kind : TreeKind) (k : ℕ) (xs : List Sub) (u v : ScriptData) → n ≤ 64 → 0 < k → k + length xs ≤ 64 → AllByRecursion (IsItem n) items → AreSubs n items kind k xs → u.items ≡ items
    → subs_added u xs ≡ Ok v → Gives items u (subs_rows items xs) v
subs_back n items kind k [] u v few some room all subs same h = let e : u ≡ v = cc h in record { reads = reads_none u v e; items_stay = sym (ap (λ (w : ScriptData). w.items) e) ∙ same; form_stays = sym (ap (λ (w : ScriptData). w.form) e) }
subs_back n items kind k (x ∷ xs) u v few some room all subs same h =
    let g = goes (adds_sub u x.parent.0 x.node) (λ t. then_more (ops_added t x.ops) (λ w. subs_added w xs)) v h in
    let f = goes (ops_added g.first x.ops) (λ w. subs_added w xs) v g.rest in
    let stays : g.first.items ≡ items = sym (ap (λ (w : ScriptData). w.items) (sub_is u g.first x.parent.0 x.node g.is)) ∙ same in
    let row = sub_back u x (omega (arith, subs.0.parent some, room)) (omega (arith, subs.0.node, few)) in
    let ops = ops_back n items kind x.node.0 x.ops g.first f.first (record { all = all; ops = subs.0.ops; amounts = subs.0.amounts }) stays f.is in
    let rest = subs_back n items kind (k + 1) xs f.first v few (omega arith) (omega (arith, room)) all subs.1 ops.items_stay f.rest in
    record {
      reads = reads_one u g.first v (sub_fields x) (ops_rows items x.ops ++ subs_rows items xs) (row ∙ g.is) (reads_both g.first f.first v (ops_rows items x.ops) (subs_rows items xs) ops.reads rest.reads);
      items_stay = rest.items_stay;
      form_stays = rest.form_stays ∙ ops.form_stays ∙ sym (ap (λ (w : ScriptData). w.form) (sub_is u g.first x.parent.0 x.node g.is));
    }

-- a tree with its root and the others
rooted_back : (n : ℕ) (items : List ItemRow) (t : Tree) (xs : List Sub) (u v : ScriptData) → n ≤ 64 → length xs ≤ 64 → AllByRecursion (IsItem n) items → AreSubs n items t.kind 0 xs → u.items ≡ items
    → rooted_added u t.name t.kind xs ≡ Ok v → Gives items u (tree_rows items t.kind t.name xs) v
rooted_back n items t [] u v few room all subs same h = absurd (cc h)
rooted_back n items t (x ∷ xs) u v few room all subs same h =
    let g = goes (adds_tree u t.name t.kind x.node) (λ w. then_more (ops_added w x.ops) (λ z. subs_added z xs)) v h in
    let f = goes (ops_added g.first x.ops) (λ w. subs_added w xs) v g.rest in
    let stays : g.first.items ≡ items = sym (ap (λ (w : ScriptData). w.items) (tree_is u g.first t.name t.kind x.node g.is)) ∙ same in
    let row = tree_back u t.kind t.name x.node (omega (arith, subs.0.node, few)) in
    let ops = ops_back n items t.kind x.node.0 x.ops g.first f.first (record { all = all; ops = subs.0.ops; amounts = subs.0.amounts }) stays f.is in
    let rest = subs_back n items t.kind 1 xs f.first v few (omega arith) (omega (arith, room)) all subs.1 ops.items_stay f.rest in
    record {
      reads = reads_one u g.first v (tree_fields t.kind t.name x.node.0) (ops_rows items x.ops ++ subs_rows items xs) (row ∙ g.is) (reads_both g.first f.first v (ops_rows items x.ops) (subs_rows items xs) ops.reads rest.reads);
      items_stay = rest.items_stay;
      form_stays = rest.form_stays ∙ ops.form_stays ∙ sym (ap (λ (w : ScriptData). w.form) (tree_is u g.first t.name t.kind x.node g.is));
    }

-- the row of a subtransaction that fails
fail_rows_back : (f : Form) (items : List ItemRow) (w : Option Written) (u v : ScriptData) → ((x : Written) → w ≡ Some x → (f ≡ forms.Two) × (x.failed.0 < 64)) → u.form ≡ f → u.items ≡ items
    → fail_added u w ≡ Ok v → Gives items u (fail_rows w) v
fail_rows_back f items None u v fails at same h =
    let e : u ≡ v = cc h in
    record { reads = reads_none u v e; items_stay = sym (ap (λ (w : ScriptData). w.items) e) ∙ same; form_stays = sym (ap (λ (w : ScriptData). w.form) e) }
fail_rows_back f items (Some w) u v fails at same h =
    let k = w.failed.0 in
    let is = fail_is u v k h in
    let found = fails w refl in
    record {
      reads = reads_one u v v (fail_fields k) [] (fail_back u k (at ∙ found.0) found.1 ∙ h) (reads_none v v refl);
      items_stay = sym (ap (λ (x : ScriptData). x.items) is) ∙ same;
      form_stays = sym (ap (λ (x : ScriptData). x.form) is);
    }

-- a tree by its number
tree_at_back : (f : Form) (n : ℕ) (items : List ItemRow) (ts : List Tree) (i : ℕ) (u v : ScriptData) → n ≤ 64 → AllByRecursion (IsItem n) items → AllByRecursion (WrittenTree f n items) ts
    → u.form ≡ f → u.items ≡ items → tree_added u (slice_get ts i) ≡ Ok v → Gives items u (rows_of_tree items (slice_get ts i)) v
tree_at_back f n items [] i u v few all trees at same h = absurd (cc h)
tree_at_back f n items (t ∷ ts) zero u v few all trees at same h =
    let g = goes (rooted_added u t.name t.kind (written_subs t)) (λ w. fail_added w t.written) v h in
    let tree = rooted_back n items t (written_subs t) u g.first few trees.0.few all trees.0.subs same g.is in
    let row = fail_rows_back f items t.written g.first v trees.0.fails (tree.form_stays ∙ at) tree.items_stay g.rest in
    record {
      reads = reads_both u g.first v (tree_rows items t.kind t.name (written_subs t)) (fail_rows t.written) tree.reads row.reads;
      items_stay = row.items_stay;
      form_stays = row.form_stays ∙ tree.form_stays;
    }
tree_at_back f n items (t ∷ ts) (suc i) u v few all trees at same h = tree_at_back f n items ts i u v few all trees.1 at same h

-- what the first form has none of, but is there, is of the second
second_if : (f : Form) (k : ℕ) → (f ≡ forms.One → 1 + k ≡ 0) → f ≡ forms.Two
second_if forms.Two k h = refl
second_if forms.One k h = absurd (omega (arith, h refl))

not_first : (f : Form) (k : ℕ) → f ≡ forms.Two → f ≡ forms.One → k ≡ 0
not_first f k second first = absurd (cc (sym first ∙ second))

-- all rows with their trees, of which those of the second form alone make the coordinator forget
rows_back : (f : Form) (n : ℕ) (items : List ItemRow) (ts : List Tree) (rs : List ScriptRow) (u v : ScriptData) → n ≤ 64 → AllByRecursion (IsItem n) items → AllByRecursion (WrittenTree f n items) ts
    → (f ≡ forms.One → loses_in rs ≡ 0) → u.form ≡ f → u.items ≡ items → rows_added ts u rs ≡ Ok v → Reads u (rows_of_rows items ts rs) v
rows_back f n items ts [] u v few all trees loses at same h = reads_none u v (cc h)
rows_back f n items ts (rows.Tree i ∷ rs) u v few all trees loses at same h =
    let g = goes (tree_added u (slice_get ts i.0)) (λ w. rows_added ts w rs) v h in
    let tree = tree_at_back f n items ts i.0 u g.first few all trees at same g.is in
    reads_both u g.first v (rows_of_tree items (slice_get ts i.0)) (rows_of_rows items ts rs) tree.reads
    (rows_back f n items ts rs g.first v few all trees (λ e. omega (arith, loses e)) (tree.form_stays ∙ at) tree.items_stay g.rest)
rows_back f n items ts (rows.Advance ∷ rs) u v few all trees loses at same h =
    let g = goes (adds_advance u) (λ w. rows_added ts w rs) v h in
    let stays : g.first.items ≡ items = sym (ap (λ (w : ScriptData). w.items) (advance_is u g.first g.is)) ∙ same in
    let form : g.first.form ≡ f = sym (ap (λ (w : ScriptData). w.form) (advance_is u g.first g.is)) ∙ at in
    reads_one u g.first v _ (rows_of_rows items ts rs) g.is (rows_back f n items ts rs g.first v few all trees (λ e. omega (arith, loses e)) form stays g.rest)
rows_back f n items ts (rows.Lose ∷ rs) u v few all trees loses at same h =
    let g = goes (adds_lose u) (λ w. rows_added ts w rs) v h in
    let second : f ≡ forms.Two = second_if f (loses_in rs) loses in
    let stays : g.first.items ≡ items = sym (ap (λ (w : ScriptData). w.items) (lose_is u g.first g.is)) ∙ same in
    let form : g.first.form ≡ f = sym (ap (λ (w : ScriptData). w.form) (lose_is u g.first g.is)) ∙ at in
    reads_one u g.first v _ (rows_of_rows items ts rs) (lose_back u (at ∙ second) ∙ g.is)
    (rows_back f n items ts rs g.first v few all trees (not_first f (loses_in rs) second) form stays g.rest)
rows_back f n items ts (rows.Settle ∷ rs) u v few all trees loses at same h =
    let g = goes (adds_settle u) (λ w. rows_added ts w rs) v h in
    let stays : g.first.items ≡ items = sym (ap (λ (w : ScriptData). w.items) (settle_is u g.first g.is)) ∙ same in
    let form : g.first.form ≡ f = sym (ap (λ (w : ScriptData). w.form) (settle_is u g.first g.is)) ∙ at in
    reads_one u g.first v _ (rows_of_rows items ts rs) g.is (rows_back f n items ts rs g.first v few all trees (λ e. omega (arith, loses e)) form stays g.rest)

-- what is written begins with no byte order mark
no_mark : (f : Form) (n : ℕ) (rs : List (List (List ℕ))) → strip_bom (lines (form_rows f ++ nodes_fields n ∷ rs)) ≡ lines (form_rows f ++ nodes_fields n ∷ rs)
unfolding strip_bom
no_mark forms.One n rs = refl
no_mark forms.Two n rs = refl

-- what is written is the rows, line by line
written_rows : (s : ScriptData) → IsValid s → AreOf32Bits s.picks → records_in (written s) ≡ rows_of s
written_rows s h small =
    ap (records_from default_config (length (written s) + 1) st.StartRecord) (no_mark s.form s.nodes (map item_fields s.items ++ (rows_of_rows s.items s.trees s.rows ++ map pick_fields s.picks)))
    ∙ lines_read (length (written s) + 1) (rows_of s) (omega (arith, few_lines (rows_of s))) (all_plain s h small)

-- what is added comes after what is there
items_stand : (items : List ItemRow) (u v : ScriptData) → items_added u items ≡ Ok v → v.items ≡ u.items ++ items
items_stand [] u v h = let e : u ≡ v = cc h in sym (ap (λ (w : ScriptData). w.items) e) ∙ sym (append-nil u.items)
items_stand (r ∷ rs) u v h =
    let g = goes (adds_item u r) (λ t. items_added t rs) v h in
    let one : u.items ++ r ∷ [] ≡ g.first.items = ap (λ (w : ScriptData). w.items) (item_is u g.first r g.is) in
    items_stand rs g.first v g.rest ∙ ap (λ (xs : List ItemRow). xs ++ rs) (sym one) ∙ append_assoc u.items (r ∷ []) rs

-- items leave the form
items_form : (items : List ItemRow) (u v : ScriptData) → items_added u items ≡ Ok v → v.form ≡ u.form
items_form [] u v h = let e : u ≡ v = cc h in sym (ap (λ (w : ScriptData). w.form) e)
items_form (r ∷ rs) u v h =
    let g = goes (adds_item u r) (λ t. items_added t rs) v h in
    items_form rs g.first v g.rest ∙ sym (ap (λ (w : ScriptData). w.form) (item_is u g.first r g.is))

-- all picks
picks_back : (ks : List ℕ) (u v : ScriptData) → AreOf32Bits ks → picks_added u ks ≡ Ok v → Reads u (map pick_fields ks) v
picks_back [] u v small h = reads_none u v (cc h)
picks_back (k ∷ ks) u v small h =
    let g = goes (adds_pick u k) (λ t. picks_added t ks) v h in
    reads_one u g.first v (pick_fields k) (map pick_fields ks) (pick_back u k (small 0) ∙ g.is) (picks_back ks g.first v (λ i. small (suc i)) g.rest)

-- from the `nodes` row on, after the row of the second form where it is there
nodes_then : (f : Form) (n : ℕ) (u : ScriptData) (rs : List (List (List ℕ))) → 1 ≤ n → n ≤ most_nodes f → Reads (fresh f n) rs u → read_rows (form_rows f ++ nodes_fields n ∷ rs) ≡ Ok u
nodes_then forms.One n u rs some few reads =
    let start = ap (λ (x : Result (Option ScriptData) Why). then_rows 1 x (λ begun. option_map_or (λ s. rows_from s 2 rs) begun (second_rows rs))) (nodes_back n some few) in
    let rest = reads 2 [] in
    start ∙ ap (rows_from (fresh forms.One n) 2) (sym (append-nil rs)) ∙ rest.1 ∙ ends u rest.0 [] refl
nodes_then forms.Two n u rs some few reads =
    let start = ap (λ (x : Result ScriptData Why). then_rows 2 x (λ t. rows_from t 3 rs)) (second_nodes_back n some few) in
    let rest = reads 3 [] in
    start ∙ ap (rows_from (fresh forms.Two n) 3) (sym (append-nil rs)) ∙ rest.1 ∙ ends u rest.0 [] refl

-- what builds a script again reads its rows
rows_read : (s u : ScriptData) → IsValid s → AreOf32Bits s.picks → rebuilt s ≡ Ok u → read_rows (rows_of s) ≡ Ok u
rows_read s u h small is =
    let g = goes (items_added (fresh s.form s.nodes) s.items) (λ t. then_more (rows_added s.trees t s.rows) (λ w. picks_added w s.picks)) u is in
    let f = goes (rows_added s.trees g.first s.rows) (λ w. picks_added w s.picks) u g.rest in
    let few = few_nodes s h in
    let items = items_back s.nodes s.items (fresh s.form s.nodes) g.first few h.items g.is in
    let stays : g.first.items ≡ s.items = items_stand s.items (fresh s.form s.nodes) g.first g.is in
    let form : g.first.form ≡ s.form = items_form s.items (fresh s.form s.nodes) g.first g.is in
    let rows = rows_back s.form s.nodes s.items s.trees s.rows g.first f.first few h.items (written_trees s.form s.nodes s.items [] s.trees h.trees h.failed) h.first_form form stays f.is in
    let picks = picks_back s.picks f.first u small f.rest in
    nodes_then s.form s.nodes u (map item_fields s.items ++ (rows_of_rows s.items s.trees s.rows ++ map pick_fields s.picks)) h.some_nodes h.few_nodes
    (reads_both (fresh s.form s.nodes) g.first u (map item_fields s.items) (rows_of_rows s.items s.trees s.rows ++ map pick_fields s.picks) items
    (reads_both g.first f.first u (rows_of_rows s.items s.trees s.rows) (map pick_fields s.picks) rows picks))

-- what is written of a script is read as the same script
read_back : (s : ScriptData) → IsValid s → AreOf32Bits s.picks → length (written s) ≤ 8388608 → IsReadAs (read_of (written s)) s
read_back s h small few =
    let again = is_rebuilt s h in
    let short : nat_lt 8388608 (length (written s)) ≡ false = lt-leb 8388609 (length (written s)) (omega (arith, few)) in
    let read : read_of (written s) ≡ read_rows (records_in (written s)) = rw short refl in
    (again.0, read ∙ ap read_rows (written_rows s h small) ∙ rows_read s again.0 h small again.1, again.2)

-- the same of a text that is equal to what is written
pub text_read : (s : ScriptData) (text : List ℕ) → IsValid s → AreOf32Bits s.picks → text ≡ written s → length text ≤ 8388608 → IsReadAs (read_of text) s
text_read s text h small is few = subst (λ (x : List ℕ). IsReadAs (read_of x) s) (sym is) (read_back s h small (subst (λ (x : List ℕ). length x ≤ 8388608) is few))
