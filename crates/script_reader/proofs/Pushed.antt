-- What is pushed piece by piece is the text of the rows.
use Rattle.std.proofs.Common.{◌≡◌, ◌+◌, ◌-◌, ◌<◌, ◌≤◌, ◌∙◌, ◌∷◌, ◌++◌, [], List, ℕ, suc, length, get_or, take, drop, map, Result, Ok, Err, OnOk, refl, sym, ap, arith, append_assoc, add-one, drop-cons}
use Rattle.std.proofs.lemmas.Grind.{common_steps}
use Rattle.tx_trees.specs.ScriptData.{ScriptData}
use Rattle.tx_trees.specs.declared.parts.ItemRow.{ItemRow}
use Rattle.tx_trees.specs.declared.parts.ScriptRow.{ScriptRow}
use Rattle.tx_trees.specs.declared.parts.Sub.{Sub}
use Rattle.tx_trees.specs.declared.parts.SubOp.{SubOp}
use Rattle.tx_trees.specs.declared.parts.Tree.{Tree}
use Rattle.tx_trees.specs.declared.parts.TreeKind.{TreeKind}
use Rattle.tx_trees.specs.declared.parts.Written.{Written}
use Rattle.tx_trees.specs.Rebuilt.{written_subs}
use Rattle.std.specs.Prelude.{Some}
use Rattle.std.proofs.lemmas.List.{append-nil}
use Rattle.script_reader.specs.Written.{fail_fields, fail_rows, rows_of_tree, form_rows, item_fields, line, lines, nodes_fields, ops_rows, pick_fields, rows_behind, rows_of_row, rows_of_rows, sub_fields, subs_rows, tree_fields, tree_rows, written}

-- the lines of rows after rows
pub lines-append : (a b : List (List (List ℕ))) → lines (a ++ b) ≡ lines a ++ lines b
lines-append [] b = refl
lines-append (r ∷ rs) b = ap (λ (t : List ℕ). line r ++ t) (lines-append rs b) ∙ sym (append_assoc (line r) (lines rs) (lines b))

-- one more subtransaction with its operations
pub sub_pushed : (items : List ItemRow) (xs : List Sub) (i : ℕ) (x : Sub) (ops : List SubOp) (t a b u : List ℕ) → i < length xs → x ≡ get_or xs i x → ops ≡ x.ops → a ≡ t ++ line (sub_fields x) → b ≡ a ++ lines (ops_rows items ops)
    → t ++ lines (subs_rows items (drop i xs)) ≡ u → b ++ lines (subs_rows items (drop (i + 1) xs)) ≡ u
sub_pushed items xs i x ops t a b u lt here same ha hb so_far =
    let rest = lines (subs_rows items (drop (suc i) xs)) in
    let next : drop i xs ≡ x ∷ drop (suc i) xs = drop-cons xs i x lt ∙ ap (λ (y : Sub). y ∷ drop (suc i) xs) (sym here) in
    let more : lines (subs_rows items (drop i xs)) ≡ line (sub_fields x) ++ (lines (ops_rows items x.ops) ++ rest) =
    ap (λ (ys : List Sub). lines (subs_rows items ys)) next ∙ ap (λ (y : List ℕ). line (sub_fields x) ++ y) (lines-append (ops_rows items x.ops) (subs_rows items (drop (suc i) xs))) in
    let regroup : (a ++ lines (ops_rows items x.ops)) ++ rest ≡ t ++ (line (sub_fields x) ++ (lines (ops_rows items x.ops) ++ rest)) = rw ha (simp append_assoc) in
    rw (add-one, hb, same) (regroup ∙ ap (λ (y : List ℕ). t ++ y) (sym more) ∙ so_far)

-- one more row with its tree
pub row_pushed : (items : List ItemRow) (ts : List Tree) (rs : List ScriptRow) (i : ℕ) (d : ScriptRow) (t a u : List ℕ) → i < length rs → a ≡ t ++ lines (rows_of_row items ts (get_or rs i d))
    → t ++ lines (rows_of_rows items ts (drop i rs)) ≡ u → a ++ lines (rows_of_rows items ts (drop (i + 1) rs)) ≡ u
row_pushed items ts rs i d t a u lt ha so_far =
    let r = get_or rs i d in
    let rest = lines (rows_of_rows items ts (drop (suc i) rs)) in
    let more : lines (rows_of_rows items ts (drop i rs)) ≡ lines (rows_of_row items ts r) ++ rest =
    ap (λ (ys : List ScriptRow). lines (rows_of_rows items ts ys)) (drop-cons rs i d lt) ∙ lines-append (rows_of_row items ts r) (rows_of_rows items ts (drop (suc i) rs)) in
    rw (add-one, ha) (append_assoc t (lines (rows_of_row items ts r)) rest ∙ ap (λ (y : List ℕ). t ++ y) (sym more) ∙ so_far)

-- what holds where a call succeeds follows from what its clause says
on_ok : {T E : Type 0} (r : Result T E) (P Q : Type 0) → (P → Q) → OnOk r P → OnOk r Q
on_ok (Ok t) P Q f h = f h
on_ok (Err e) P Q f h = tt

-- all but the first
behind_first : (y : Sub) (ys : List Sub) → take (length (y ∷ ys) - 1) (drop 1 (y ∷ ys)) ≡ ys
behind_first y ys = grind (arith, common_steps)

-- a tree's row with its root's operations, and then the others
pub tree_pushed : {T E : Type 0} (items : List ItemRow) (kind : TreeKind) (name : List ℕ) (xs ss : List Sub) (x : Sub) (ops : List SubOp) (t a b u : List ℕ) (r : Result T E) → 1 ≤ length xs → xs ≡ ss → x ≡ get_or xs 0 x → ops ≡ x.ops
    → a ≡ t ++ line (tree_fields kind name x.node.0) → b ≡ a ++ lines (ops_rows items ops) → OnOk r (u ≡ b ++ lines (subs_rows items (take (length xs - 1) (drop 1 xs)))) → OnOk r (u ≡ t ++ lines (tree_rows items kind name ss))
tree_pushed items kind name [] ss x ops t a b u r some same here sops ha hb h = absurd (omega arith)
tree_pushed items kind name (y ∷ ys) ss x ops t a b u r some same here sops ha hb h =
    let rest = lines (subs_rows items ys) in
    let first : b ≡ (t ++ line (tree_fields kind name y.node.0)) ++ lines (ops_rows items y.ops) = hb ∙ rw (ha, sops, here) refl in
    let whole : lines (tree_rows items kind name ss) ≡ line (tree_fields kind name y.node.0) ++ (lines (ops_rows items y.ops) ++ rest) =
    ap (λ (zs : List Sub). lines (tree_rows items kind name zs)) (sym same) ∙ ap (λ (z : List ℕ). line (tree_fields kind name y.node.0) ++ z) (lines-append (ops_rows items y.ops) (subs_rows items ys)) in
    let regroup : b ++ rest ≡ t ++ lines (tree_rows items kind name ss) = rw (first, whole) (simp append_assoc) in
    on_ok r _ _ (λ e. e ∙ ap (λ (zs : List Sub). b ++ lines (subs_rows items zs)) (behind_first y ys) ∙ regroup) h

-- a tree with the row of the subtransaction that fails
pub fail_pushed : {T E : Type 0} (items : List ItemRow) (t : Tree) (w : Written) (subs : List Sub) (a b c : List ℕ) (r : Result T E) → Some w ≡ t.written → subs ≡ w.subs → b ≡ a ++ lines (tree_rows items t.kind t.name subs)
    → OnOk r (c ≡ b ++ line (fail_fields w.failed.0)) → OnOk r (c ≡ a ++ lines (rows_of_tree items (Some t)))
fail_pushed items t w subs a b c r is same hb h =
    let rows = tree_rows items t.kind t.name w.subs in
    let last = fail_fields w.failed.0 ∷ [] in
    let whole : rows_of_tree items (Some t) ≡ rows ++ last = rw (sym is, written_subs, fail_rows) refl in
    let text : lines (rows_of_tree items (Some t)) ≡ lines rows ++ (line (fail_fields w.failed.0) ++ []) = ap lines whole ∙ lines-append rows last in
    let before : b ≡ a ++ lines rows = hb ∙ ap (λ (x : List Sub). a ++ lines (tree_rows items t.kind t.name x)) same in
    on_ok r _ _ (λ e. e ∙ ap (λ (x : List ℕ). x ++ line (fail_fields w.failed.0)) before ∙ append_assoc a (lines rows) (line (fail_fields w.failed.0))
    ∙ ap (λ (x : List ℕ). a ++ (lines rows ++ x)) (sym (append-nil (line (fail_fields w.failed.0)))) ∙ ap (λ (x : List ℕ). a ++ x) (sym text)) h

-- all parts, one after the other
pub all_pushed : (s : ScriptData) (t f a b c d : List ℕ) → t ≡ [] → f ≡ t ++ lines (form_rows s.form) → a ≡ f ++ line (nodes_fields s.nodes) → b ≡ a ++ lines (map item_fields s.items) → c ≡ b ++ lines (rows_of_rows s.items s.trees s.rows)
    → d ≡ c ++ lines (map pick_fields s.picks) → d ≡ written s
all_pushed s t f a b c d ht hf ha hb hc hd =
    let rest = lines-append (map item_fields s.items) (rows_of_rows s.items s.trees s.rows ++ map pick_fields s.picks)
    ∙ ap (λ (y : List ℕ). lines (map item_fields s.items) ++ y) (lines-append (rows_of_rows s.items s.trees s.rows) (map pick_fields s.picks)) in
    let first : f ≡ lines (form_rows s.form) = hf ∙ rw ht refl in
    hd
    ∙ all_of (lines (form_rows s.form)) (line (nodes_fields s.nodes)) (lines (map item_fields s.items)) (lines (rows_of_rows s.items s.trees s.rows)) (lines (map pick_fields s.picks)) f a b c first ha hb hc
    ∙ ap (λ (y : List ℕ). lines (form_rows s.form) ++ (line (nodes_fields s.nodes) ++ y)) (sym rest)
    ∙ sym (lines-append (form_rows s.form) (rows_behind s))
  where
    all_of : (F N I R P f a b c : List ℕ) → f ≡ F → a ≡ f ++ N → b ≡ a ++ I → c ≡ b ++ R → c ++ P ≡ F ++ (N ++ (I ++ (R ++ P)))
    all_of F N I R P f a b c hf ha hb hc = rw (hc, hb, ha, hf) (simp append_assoc)

-- a script's parts, by what its readers gave
pub rows_are : (t : List ℕ) (items : List ItemRow) (ts : List Tree) (rs : List ScriptRow) (s : ScriptData) → items ≡ s.items → ts ≡ s.trees → rs ≡ s.rows → t ++ lines (rows_of_rows items ts rs) ≡ t ++ lines (rows_of_rows s.items s.trees s.rows)
rows_are t items ts rs s hi ht hr = rw (hi, ht, hr) refl
