-- What a script keeps beside what it holds: it stays right when something is added.
use Rattle.std.proofs.Common.{◌≡◌, ◌<◌, ◌≤◌, ◌+◌, ℕ, true, false, List, [], ◌∷◌, ◌++◌, length, get_or, refl, sym, ap, ◌∙◌, subst, arith, length-append, inl, inr}
use Rattle.std.specs.Prelude.{if◌then◌else◌, Result, Ok, Err, IsOk, is_ok, unsigned_abs}
use Rattle.std.specs.Global.{Vec}
use Rattle.std.specs.Vec.{with_item as with_cell}
use Rattle.std.proofs.Math.ListN.{set, get_or-append}
use Rattle.std.proofs.Math.Seq.{get_or-append_seam}
use Rattle.std.proofs.lemmas.List.{get_or-set_other, get_or-set_same, length-set, map-append}
use Rattle.std.proofs.lemmas.Bool.{cases_eq, cases_lt}
use Rattle.tv_base.proofs.ByPlace.{slice_get-old}
use Rattle.tv_base.specs.declared.numbers.NodeNo.{NodeNo}
use Rattle.tv_base.specs.declared.numbers.TreeNo.{TreeNo}
use Rattle.commute_ops.specs.declared.kinds.Op.TheVariants as ops
use Rattle.tv_base.specs.Sums.{one_if}
use Rattle.script_parts.specs.declared.parts.Deed.{Deed}
use Rattle.script_parts.specs.declared.parts.Deed.TheVariants as deeds
use Rattle.script_parts.specs.declared.parts.Form.TheVariants as forms
use Rattle.script_parts.specs.declared.parts.ItemRow.{ItemRow}
use Rattle.script_parts.specs.declared.parts.ScriptRow.{ScriptRow}
use Rattle.script_parts.specs.declared.parts.ScriptRow.TheVariants as rows
use Rattle.script_parts.specs.declared.parts.Sub.{Sub}
use Rattle.script_parts.specs.declared.parts.SubOp.{SubOp}
use Rattle.script_parts.specs.declared.parts.Tree.{Tree}
use Rattle.script_parts.specs.declared.parts.TreeKind.{TreeKind}
use Rattle.script_parts.specs.declared.parts.TreeKind.TheVariants as trees
use Rattle.tx_trees.specs.declared.script.Script.TheInside.{Inside}
use Rattle.script_parts.specs.Adding.{last_kind, on_last, on_last_sub, push_op, push_sub, rooted}
use Rattle.script_parts.specs.Amounts.{magnitude}
use Rattle.script_parts.specs.Counts.{advances_in, all_ops, all_subs, loses_in, if_update, one_put, strict_trees, trees_puts, update_subs}
use Rattle.tx_trees.specs.Inside.{IsKept, script_data}
use Rattle.script_parts.specs.inside.Passing.{MayAddItem, MayAddOp, MayAddSub, MayAddTree}
use Rattle.script_parts.specs.ScriptData.{ScriptData, is_strict}
use Rattle.script_parts.specs.Valid.{IsValid, initial_load, item_names, load, tree_names, trees_load}
use Rattle.script_parts.proofs.Lists.{slice_get-seam, sum-push}
use Rattle.tx_trees.proofs.Stays.{advances-advance, advances-lose, advances-settle, advances-tree, loses-push, names-on_last, some_last_subs, trees_before, valid_item, valid_op, valid_row, valid_sub, valid_tree, valid_upgraded}
use Rattle.script_parts.proofs.Totals.{all_subs-sum, load_other, load_same, load_total, op_total, put_other, put_same, put_total, strict-op, strict-sub, strict-sum, subs-op, subs-sub, total-op, total-sub, total-tree, update-op, update-sub, update-sum}

-- numbers beside the items, where one is added or changed

cells-push : (cells more : List ℕ) (v n : ℕ) (f g : ℕ → ℕ) → more ≡ cells ++ v ∷ [] → length cells ≡ n → ((k : ℕ) → k < n → get_or cells k 0 ≡ f k) → ((k : ℕ) → k < n → g k ≡ f k) → g n ≡ v
    → (k : ℕ) → k < n + 1 → get_or more k 0 ≡ g k
cells-push cells more v n f g is len old same new k lt = elim (cases_lt k n) [
  | inl below ↦ ap (λ (xs : List ℕ). get_or xs k 0) is ∙ get_or-append cells (v ∷ []) 0 k (omega arith) ∙ old k below ∙ sym (same k below)
  | inr over ↦
      let e : k ≡ length cells = omega arith in
      let last : get_or (cells ++ v ∷ []) k 0 ≡ v = subst (λ (j : ℕ). get_or (cells ++ v ∷ []) j 0 ≡ v) (sym e) (get_or-append_seam cells v [] 0) in
      let here : g k ≡ v = ap g (e ∙ len) ∙ new in
      ap (λ (xs : List ℕ). get_or xs k 0) is ∙ last ∙ sym here
]

cells-set : (cells : List ℕ) (j v n : ℕ) (f g : ℕ → ℕ) → length cells ≡ n → j < n → ((k : ℕ) → k < n → get_or cells k 0 ≡ f k) → ((k : ℕ) → (k ≡ j → ⊥) → g k ≡ f k) → g j ≡ v
    → (k : ℕ) → k < n → get_or (set cells j v) k 0 ≡ g k
cells-set cells j v n f g len within old other here k lt = elim (cases_eq k j) [
  | inl e ↦
      let same : get_or (set cells j v) j 0 ≡ g j = get_or-set_same cells j v 0 (omega arith) ∙ sym here in
      subst (λ (i : ℕ). get_or (set cells j v) i 0 ≡ g i) (sym e) same
  | inr ne ↦ get_or-set_other cells j k v 0 ne ∙ old k lt ∙ sym (other k ne)
]

pub pushed_is : {A T E : Type 0} (r : Result T E) (new old : List A) (x : A) → IsOk r → new ≡ (if is_ok r then old ++ x ∷ [] else old) → new ≡ old ++ x ∷ []
pushed_is (Ok t) new old x ok e = e
pushed_is (Err f) new old x ok e = absurd cc

at_most : (kind : TreeKind) (n : ℕ) → if_update kind n ≤ n
at_most trees.Update n = omega arith
at_most trees.Read n = omega arith
at_most trees.Strict n = omega arith

pub few_updates : (ts : List Tree) → update_subs ts ≤ all_subs ts
few_updates [] = omega arith
few_updates (t ∷ ts) = omega (arith, few_updates ts, at_most t.kind (length t.subs))

pub one_update_small : (kind : TreeKind) → if_update kind 1 ≤ 1
one_update_small kind = at_most kind 1

pub one_put_small : (deed : Deed) → one_put deed ≤ 1
one_put_small (deeds.Apply (ops.Add a)) = omega arith
one_put_small (deeds.Apply (ops.Top a)) = omega arith
one_put_small (deeds.Apply (ops.Put a)) = omega arith
one_put_small deeds.Get = omega arith
one_put_small (deeds.Set a) = omega arith
one_put_small (deeds.Draw a) = omega arith

-- one more item
pub kept_item : (s : Inside) (items : Vec ItemRow) (names : List (List ℕ)) (totals puts : Vec ℕ) (r : ItemRow) → names ≡ s.item_names ++ r.name ∷ [] → items.items ≡ s.items.items ++ r ∷ []
    → totals.items ≡ s.totals.items ++ unsigned_abs r.initial ∷ [] → puts.items ≡ s.puts.items ++ 0 ∷ [] → MayAddItem (script_data s) r → IsKept s
    → IsKept (record s { items = items; item_names = names; totals = totals; puts = puts; begun = false })
kept_item s items names totals puts r names_are is totals_are puts_are may h =
    let n : ℕ = length s.items.items in
    let len : length items.items ≡ n + 1 = ap length is ∙ omega (arith, length-append s.items.items (r ∷ [])) in
    let idle = trees_before s.nodes s.items.items s.trees.items h.valid.trees in
    let new : ScriptData = record (script_data s) { items = s.items.items ++ r ∷ []; begun = false } in
    let fresh : load n new ≡ unsigned_abs r.initial = omega (arith, ap initial_load (slice_get-seam s.items.items [] r), idle.0) in
    let same : (k : ℕ) → k < n → load k new ≡ load k (script_data s) = λ k lt. omega (arith, ap initial_load (slice_get-old s.items.items (r ∷ []) k lt)) in
    let loads = cells-push s.totals.items totals.items (unsigned_abs r.initial) n (λ k. load k (script_data s)) (λ k. load k new) totals_are h.len h.totals same fresh in
    let counts = cells-push s.puts.items puts.items 0 n (λ k. trees_puts k s.trees.items) (λ k. trees_puts k s.trees.items) puts_are h.puts_len h.puts (λ k lt. refl) idle.1 in
    record {
      valid = subst (λ (xs : List ItemRow). IsValid (record (script_data s) { items = xs; begun = false })) (sym is) (valid_item (script_data s) r may h.valid);
      item_names = names_are ∙ ap (λ (x : List (List ℕ)). x ++ r.name ∷ []) h.item_names ∙ sym (ap item_names is ∙ map-append (λ (x : ItemRow). x.name) s.items.items (r ∷ []));
      tree_names = h.tree_names;
      len = omega (arith, h.len, ap length totals_are, length-append s.totals.items (unsigned_abs r.initial ∷ []));
      totals = λ k lt. loads k (omega arith) ∙ sym (ap (λ (xs : List ItemRow). load k (record (script_data s) { items = xs; begun = false })) is);
      puts_len = omega (arith, h.puts_len, ap length puts_are, length-append s.puts.items (0 ∷ []));
      puts = λ k lt. counts k (omega arith);
      subs = h.subs;
      ops = h.ops;
      advances = h.advances;
      loses = h.loses;
      strict = h.strict;
      update_subs = h.update_subs;
    }

-- one more tree, with its root alone
pub kept_tree : (s : Inside) (trees : Vec Tree) (names : List (List ℕ)) (rs : Vec ScriptRow) (n strict updates : ℕ) (name : List ℕ) (kind : TreeKind) (node : NodeNo)
    → names ≡ s.tree_names ++ name ∷ [] → trees.items ≡ s.trees.items ++ rooted name kind node ∷ [] → rs.items ≡ s.rows.items ++ rows.Tree (record { 0 = length s.trees.items }) ∷ []
    → n ≡ s.subs + 1 → strict ≡ s.strict + one_if (is_strict kind) → updates ≡ s.update_subs + if_update kind 1 → MayAddTree (script_data s) name kind node → IsKept s
    → IsKept (record s { trees = trees; tree_names = names; rows = rs; begun = true; subs = n; strict = strict; update_subs = updates })
kept_tree s trees names rs n strict updates name kind node names_are is rows_are n_is strict_is updates_are may h =
    let t : Tree = rooted name kind node in
    let x : Sub = record { parent = record { 0 = 0 }; node = node; ops = [] } in
    let number : TreeNo = record { 0 = length s.trees.items } in
    let valid = valid_tree (script_data s) name kind node may h.valid in
    let with_trees = subst (λ (ts : List Tree). IsValid (record (script_data s) { trees = ts; rows = s.rows.items ++ rows.Tree number ∷ []; begun = true })) (sym is) valid in
    record {
      valid = subst (λ (xs : List ScriptRow). IsValid (record (script_data s) { trees = trees.items; rows = xs; begun = true })) (sym rows_are) with_trees;
      item_names = h.item_names;
      tree_names = names_are ∙ ap (λ (ns : List (List ℕ)). ns ++ name ∷ []) h.tree_names ∙ sym (ap tree_names is ∙ map-append (λ (u : Tree). u.name) s.trees.items (t ∷ []));
      len = h.len;
      totals = λ k lt. omega (arith, h.totals k lt, ap (trees_load k) is, total-tree (load_total k) s.trees.items t x refl refl);
      puts_len = h.puts_len;
      puts = λ k lt. omega (arith, h.puts k lt, ap (trees_puts k) is, total-tree (put_total k) s.trees.items t x refl refl);
      subs = omega (arith, ap all_subs is, sum-push (λ (u : Tree). length u.subs) all_subs all_subs-sum s.trees.items t, h.subs);
      ops = omega (arith, ap all_ops is, total-tree op_total s.trees.items t x refl refl, h.ops);
      advances = omega (arith, ap advances_in rows_are, advances-tree s.rows.items number, h.advances);
      loses = omega (arith, ap loses_in rows_are, loses-push s.rows.items (rows.Tree number), h.loses);
      strict = omega (arith, ap strict_trees is, sum-push (λ (u : Tree). one_if (is_strict u.kind)) strict_trees strict-sum s.trees.items t, h.strict);
      update_subs = omega (arith, ap update_subs is, sum-push (λ (u : Tree). if_update u.kind (length u.subs)) update_subs update-sum s.trees.items t, h.update_subs);
    }

-- one more subtransaction of the last tree
pub kept_sub : (s : Inside) (trees : Vec Tree) (n updates parent : ℕ) (node : NodeNo) (x : Sub) → x ≡ record { parent = record { 0 = parent }; node = node; ops = [] }
    → trees.items ≡ on_last (push_sub x) s.trees.items → n ≡ s.subs + 1 → updates ≡ s.update_subs + if_update (last_kind s.trees.items) 1 → MayAddSub (script_data s) parent node → IsKept s
    → IsKept (record s { trees = trees; subs = n; update_subs = updates })
kept_sub s trees n updates parent node x x_is was n_is updates_are may h =
    let y : Sub = record { parent = record { 0 = parent }; node = node; ops = [] } in
    let is : trees.items ≡ on_last (push_sub y) s.trees.items = subst (λ (z : Sub). trees.items ≡ on_last (push_sub z) s.trees.items) x_is was in
    let some = h.valid.begun may.begun in
    let valid = subst (λ (ts : List Tree). IsValid (record (script_data s) { trees = ts; begun = true })) (sym is) (valid_sub (script_data s) parent node may h.valid) in
    record {
      valid = rw may.begun valid;
      item_names = h.item_names;
      tree_names = h.tree_names ∙ sym (ap tree_names is ∙ names-on_last (push_sub y) s.trees.items (λ t. refl));
      len = h.len;
      totals = λ k lt. omega (arith, h.totals k lt, ap (trees_load k) is, total-sub (load_total k) s.trees.items y refl some);
      puts_len = h.puts_len;
      puts = λ k lt. omega (arith, h.puts k lt, ap (trees_puts k) is, total-sub (put_total k) s.trees.items y refl some);
      subs = omega (arith, ap all_subs is, subs-sub s.trees.items y some, h.subs);
      ops = omega (arith, ap all_ops is, total-sub op_total s.trees.items y refl some, h.ops);
      advances = h.advances;
      loses = h.loses;
      strict = omega (arith, ap strict_trees is, strict-sub s.trees.items y some, h.strict);
      update_subs = omega (arith, ap update_subs is, update-sub s.trees.items y some, h.update_subs);
    }

-- one more operation of the last subtransaction
pub kept_op : (s : Inside) (trees : Vec Tree) (k v p n : ℕ) (deed : Deed) → trees.items ≡ on_last (on_last_sub (push_op (record { item = record { 0 = k }; deed = deed }))) s.trees.items
    → v ≡ get_or s.totals.items k 0 + magnitude deed → p ≡ get_or s.puts.items k 0 + one_put deed → n ≡ s.ops + 1 → MayAddOp (script_data s) k deed → IsKept s
    → IsKept (record s { trees = trees; totals = with_cell s.totals k v; puts = with_cell s.puts k p; ops = n })
kept_op s trees k v p n deed is v_is p_is n_is may h =
    let o : SubOp = record { item = record { 0 = k }; deed = deed } in
    let some = h.valid.begun may.begun in
    let root = some_last_subs s.nodes s.items.items s.trees.items h.valid.trees some in
    let new : ScriptData = record (script_data s) { trees = trees.items } in
    let valid = subst (λ (ts : List Tree). IsValid (record (script_data s) { trees = ts; begun = true })) (sym is) (valid_op (script_data s) k deed may h.valid) in
    let other : (j : ℕ) → (j ≡ k → ⊥) → load j new ≡ load j (script_data s) = λ j ne.
    omega (arith, ap (trees_load j) is, total-op (load_total j) s.trees.items o some root, load_other o j (λ q. ne (sym q))) in
    let here : load k new ≡ v = omega (arith, ap (trees_load k) is, total-op (load_total k) s.trees.items o some root, load_same o k refl, h.totals k may.item) in
    let other_puts : (j : ℕ) → (j ≡ k → ⊥) → trees_puts j trees.items ≡ trees_puts j s.trees.items = λ j ne.
    omega (arith, ap (trees_puts j) is, total-op (put_total j) s.trees.items o some root, put_other o j (λ q. ne (sym q))) in
    let here_puts : trees_puts k trees.items ≡ p = omega (arith, ap (trees_puts k) is, total-op (put_total k) s.trees.items o some root, put_same o k refl, h.puts k may.item) in
    record {
      valid = rw may.begun valid;
      item_names = h.item_names;
      tree_names = h.tree_names ∙ sym (ap tree_names is ∙ names-on_last (on_last_sub (push_op o)) s.trees.items (λ t. refl));
      len = omega (arith, h.len, length-set {A = ℕ} s.totals.items k v);
      totals = cells-set s.totals.items k v (length s.items.items) (λ j. load j (script_data s)) (λ j. load j new) h.len may.item h.totals other here;
      puts_len = omega (arith, h.puts_len, length-set {A = ℕ} s.puts.items k p);
      puts = cells-set s.puts.items k p (length s.items.items) (λ j. trees_puts j s.trees.items) (λ j. trees_puts j trees.items) h.puts_len may.item h.puts other_puts here_puts;
      subs = omega (arith, ap all_subs is, subs-op s.trees.items o some, h.subs);
      ops = omega (arith, ap all_ops is, total-op op_total s.trees.items o some root, h.ops);
      advances = h.advances;
      loses = h.loses;
      strict = omega (arith, ap strict_trees is, strict-op s.trees.items o some, h.strict);
      update_subs = omega (arith, ap update_subs is, update-op s.trees.items o some, h.update_subs);
    }

-- one more advancement
pub kept_advance : (s : Inside) (rs : Vec ScriptRow) (n : ℕ) → rs.items ≡ s.rows.items ++ rows.Advance ∷ [] → n ≡ s.advances + 1 → s.advances < 100 → IsKept s
    → IsKept (record s { rows = rs; advances = n; begun = false })
kept_advance s rs n is n_is few h =
    let more = advances-advance s.rows.items in
    record {
      valid = subst (λ (xs : List ScriptRow). IsValid (record (script_data s) { rows = xs; begun = false })) (sym is)
          (valid_row (script_data s) rows.Advance refl (omega (arith, h.advances)) (omega (arith, h.valid.limited.loses, loses-push s.rows.items rows.Advance)) (λ e. refl) h.valid);
      item_names = h.item_names;
      tree_names = h.tree_names;
      len = h.len;
      totals = h.totals;
      puts_len = h.puts_len;
      puts = h.puts;
      subs = h.subs;
      ops = h.ops;
      advances = omega (arith, ap advances_in is, h.advances);
      loses = omega (arith, ap loses_in is, loses-push s.rows.items rows.Advance, h.loses);
      strict = h.strict;
      update_subs = h.update_subs;
    }

-- one more wait
pub kept_settle : (s : Inside) (rs : Vec ScriptRow) → rs.items ≡ s.rows.items ++ rows.Settle ∷ [] → IsKept s → IsKept (record s { rows = rs; begun = false })
kept_settle s rs is h =
    let more = advances-settle s.rows.items in
    record {
      valid = subst (λ (xs : List ScriptRow). IsValid (record (script_data s) { rows = xs; begun = false })) (sym is)
          (valid_row (script_data s) rows.Settle refl (omega (arith, h.valid.limited.advances)) (omega (arith, h.valid.limited.loses, loses-push s.rows.items rows.Settle)) (λ e. refl) h.valid);
      item_names = h.item_names;
      tree_names = h.tree_names;
      len = h.len;
      totals = h.totals;
      puts_len = h.puts_len;
      puts = h.puts;
      subs = h.subs;
      ops = h.ops;
      advances = omega (arith, ap advances_in is, h.advances);
      loses = omega (arith, ap loses_in is, loses-push s.rows.items rows.Settle, h.loses);
      strict = h.strict;
      update_subs = h.update_subs;
    }

-- the coordinator forgets once more
pub kept_lose : (s : Inside) (rs : Vec ScriptRow) (n : ℕ) → rs.items ≡ s.rows.items ++ rows.Lose ∷ [] → n ≡ s.loses + 1 → s.loses < 100 → s.form ≡ forms.Two → IsKept s
    → IsKept (record s { rows = rs; loses = n; begun = false })
kept_lose s rs n is n_is few second h =
    let more = loses-push s.rows.items rows.Lose in
    let same = advances-lose s.rows.items in
    record {
      valid = subst (λ (xs : List ScriptRow). IsValid (record (script_data s) { rows = xs; begun = false })) (sym is)
          (valid_row (script_data s) rows.Lose refl (omega (arith, h.valid.limited.advances)) (omega (arith, h.loses)) (λ e. absurd (cc (e, second))) h.valid);
      item_names = h.item_names;
      tree_names = h.tree_names;
      len = h.len;
      totals = h.totals;
      puts_len = h.puts_len;
      puts = h.puts;
      subs = h.subs;
      ops = h.ops;
      advances = omega (arith, ap advances_in is, h.advances);
      loses = omega (arith, ap loses_in is, h.loses);
      strict = h.strict;
      update_subs = h.update_subs;
    }

-- the second form
pub kept_upgraded : (s : Inside) → IsKept s → IsKept (record s { form = forms.Two })
kept_upgraded s h = record {
  valid = valid_upgraded (script_data s) h.valid;
  item_names = h.item_names;
  tree_names = h.tree_names;
  len = h.len;
  totals = h.totals;
  puts_len = h.puts_len;
  puts = h.puts;
  subs = h.subs;
  ops = h.ops;
  advances = h.advances;
  loses = h.loses;
  strict = h.strict;
  update_subs = h.update_subs;
}

-- lists that were only given room
pub kept_room : (s : Inside) (trees : Vec Tree) (rs : Vec ScriptRow) (names : List (List ℕ)) → trees.items ≡ s.trees.items → rs.items ≡ s.rows.items → names ≡ s.tree_names → IsKept s
    → IsKept (record s { trees = trees; rows = rs; tree_names = names })
kept_room s trees rs names is rows_are names_are h =
    let with_trees = subst (λ (ts : List Tree). IsValid (record (script_data s) { trees = ts })) (sym is) h.valid in
    record {
      valid = subst (λ (xs : List ScriptRow). IsValid (record (script_data s) { trees = trees.items; rows = xs })) (sym rows_are) with_trees;
      item_names = h.item_names;
      tree_names = names_are ∙ h.tree_names ∙ sym (ap tree_names is);
      len = h.len;
      totals = λ k lt. omega (arith, h.totals k lt, ap (trees_load k) is);
      puts_len = h.puts_len;
      puts = λ k lt. omega (arith, h.puts k lt, ap (trees_puts k) is);
      subs = omega (arith, ap all_subs is, h.subs);
      ops = omega (arith, ap all_ops is, h.ops);
      advances = omega (arith, ap advances_in rows_are, h.advances);
      loses = omega (arith, ap loses_in rows_are, h.loses);
      strict = omega (arith, ap strict_trees is, h.strict);
      update_subs = omega (arith, ap update_subs is, h.update_subs);
    }
