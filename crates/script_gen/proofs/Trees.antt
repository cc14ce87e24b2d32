-- Each record of a generated transaction is taken, and all of them make the transaction.
use Rattle.std.proofs.Common.{◌≡◌, ◌+◌, ◌*◌, ◌/◌, ◌%◌, ◌<◌, ◌≤◌, ◌∙◌, ◌∷◌, ◌++◌, [], List, Bool, true, false, ℕ, zero, suc, length, refl, sym, ap, subst, arith, length-append}
use Rattle.std.specs.Prelude.{◌&&◌, ◌||◌, ◌==◌, not, nat_le, nat_lt, Option, Some, None, slice_get, unsigned_abs}
use Rattle.std.specs.Str.{bytes_eq}
use Rattle.std.proofs.lemmas.Bool.{le-leb, le-ltb, lt-leb}
use Rattle.std.proofs.lemmas.Bool.Decides.{nat_tests}
use Rattle.std.proofs.lemmas.Int.{ints}
use Rattle.std.proofs.lemmas.List.Folds.{list_any-append}
use Rattle.tx_trees.proofs.Rebuilding.{kind_row, node_row}
use Rattle.tv_base.proofs.ByPlace.{slice_get-old}
use Rattle.tv_base.specs.declared.numbers.NodeNo.{NodeNo}
use Rattle.tv_base.specs.declared.numbers.SubNo.{SubNo}
use Rattle.commute_ops.specs.declared.kinds.Kind.{Kind}
use Rattle.tv_base.specs.Sums.{one_if}
use Rattle.tx_trees.specs.Adding.{all_ops, all_subs, has_no_tree_left, item_kind_at, last_count, last_kind, last_node, last_of, last_sub, last_subs, names_tree, node_at, on_last_sub, push_op, push_sub, touch, with_op, with_sub, with_tree}
use Rattle.tx_trees.specs.Amounts.{magnitude}
use Rattle.tx_trees.specs.Counts.{one_put, strict_trees, subs_ops, subs_puts, trees_puts, update_subs, if_update}
use Rattle.tx_trees.specs.Forms.{most_amount}
use Rattle.tx_trees.specs.Passing.{MayAddOp, MayAddSub, MayAddTree}
use Rattle.tx_trees.specs.Ranges.{draws_negative}
use Rattle.tx_trees.specs.ScriptData.{ScriptData, is_strict}
use Rattle.tx_trees.specs.Valid.{deed_fits, initial_load, load, subs_load, trees_load}
use Rattle.tx_trees.specs.declared.parts.Deed.{Deed}
use Rattle.tx_trees.specs.declared.parts.Form.{Form}
use Rattle.tx_trees.specs.declared.parts.Form.TheVariants as forms
use Rattle.tx_trees.specs.declared.parts.ItemRow.{ItemRow}
use Rattle.tx_trees.specs.declared.parts.ScriptRow.TheVariants as rows
use Rattle.tx_trees.specs.declared.parts.Sub.{Sub}
use Rattle.tx_trees.specs.declared.parts.SubOp.{SubOp}
use Rattle.tx_trees.specs.declared.parts.Tree.{Tree}
use Rattle.tx_trees.specs.declared.parts.TreeKind.{TreeKind}
use Rattle.tx_trees.specs.declared.parts.TreeKind.TheVariants as kinds
use Rattle.tx_trees.proofs.Last.{last_count_is, last_kind_is, last_node_is, last_sub_is, last_subs_is}
use Rattle.tx_trees.proofs.Lists.{last_of-seam, on_last-seam, slice_get-seam, sum-push}
use Rattle.tx_trees.proofs.Totals.{all_subs-sum, load_total, op_total, put_total, strict-sum}
use Rattle.script_gen.specs.Draws.{after_draws}
use Rattle.tv_base.specs.Draws.{next_draw, upper_bits}
use Rattle.script_gen.specs.Generated.{after_trees, amount_by, deed_by, generated_tree, home_by, is_top, item_by, generated_item_row, items_up_to, kind_by, node_by, parent_by, subs_up_to, tree_name, tree_with, trees_up_to}
use Rattle.script_gen.specs.inside.Within.{HasRoomForTree, HasTrees, bare_sub, bare_tree, with_begun}
use Rattle.script_gen.proofs.Names.{name_plain, names_apart}
use Rattle.script_gen.proofs.Totals.{all_ops_most, all_subs_most, deed_small, length-subs, length-trees, load_most, no_put, not_strict, puts_none, strict_none, subs_load_most, subs_ops_most, subs_puts_none}

-- names

apart : (n j : ℕ) → n < j → j < 100000 → bytes_eq (tree_name n) (tree_name j) ≡ false
apart n j less small = by (bytes_eq (tree_name n) (tree_name j)) refl where
  by : (b : Bool) → bytes_eq (tree_name n) (tree_name j) ≡ b → bytes_eq (tree_name n) (tree_name j) ≡ false
  by false e = e
  by true e = let same : n ≡ j = names_apart 116 n j (omega arith) small e in absurd (omega arith)

neither : (a b : Bool) → a ≡ false → b ≡ false → (a || (b || false)) ≡ false
neither a b ea eb = rw (ea, eb) refl

free_in : (seed n j : ℕ) → n ≤ j → j < 100000 → names_tree (tree_name j) (trees_up_to seed n) ≡ false
free_in seed zero j le small = refl
free_in seed (suc n) j le small =
    list_any-append (λ (t : Tree). bytes_eq t.name (tree_name j)) (trees_up_to seed n) (generated_tree n (after_trees seed n) ∷ [])
    ∙ neither (names_tree (tree_name j) (trees_up_to seed n)) (bytes_eq (tree_name n) (tree_name j))
    (free_in seed n j (omega arith) small) (apart n j (omega arith) small)

-- after j trees there is room for one more
pub room : (seed j : ℕ) (s : ScriptData) → j < 20000 → HasTrees seed j s → HasRoomForTree j s
room seed j s few has = record {
  form = has.form;
  nodes = has.nodes;
  items = has.items;
  count = ap (λ (ts : List Tree). length ts) has.trees ∙ length-trees seed j;
  few = few;
  free = ap (λ (ts : List Tree). names_tree (tree_name j) ts) has.trees ∙ free_in seed j j (omega arith) (omega arith);
  subs = subst (λ (ts : List Tree). all_subs ts ≤ 4 * j) (sym has.trees) (all_subs_most seed j);
  ops = subst (λ (ts : List Tree). all_ops ts ≤ 4 * j) (sym has.trees) (all_ops_most seed j);
  strict = ap (λ (ts : List Tree). strict_trees ts) has.trees ∙ strict_none seed j;
  puts = λ (x : ℕ). ap (λ (ts : List Tree). trees_puts x ts) has.trees ∙ puts_none x seed j;
  loads = λ (x : ℕ). subst (λ (ts : List Tree). trees_load x ts ≤ 3996 * j) (sym has.trees) (load_most x seed j);
}

-- a tree

nothing_times : (z u : ℕ) → z ≡ 0 → z * u ≤ 1000000
nothing_times z u e = subst (λ (k : ℕ). k * u ≤ 1000000) (sym e) (omega arith)

tree_limits : (len subs z u : ℕ) → len < 20000 → subs < 100000 → z ≡ 0
    → (nat_le 20000 len || nat_lt 320000 (4 * (len + 1)) || nat_le 100000 subs || nat_lt 1000 z || nat_lt 1000000 (z * u)) ≡ false
tree_limits len subs z u few less none =
    let a : nat_le 20000 len ≡ false = lt-leb 20000 len few in
    let b : nat_lt 320000 (4 * (len + 1)) ≡ false = le-ltb 320000 (4 * (len + 1)) (omega arith) in
    let c : nat_le 100000 subs ≡ false = lt-leb 100000 subs less in
    let d : nat_lt 1000 z ≡ false = le-ltb 1000 z (omega (arith, none)) in
    let e : nat_lt 1000000 (z * u) ≡ false = le-ltb 1000000 (z * u) (nothing_times z u none) in
    rw (a, b, c, d, e) refl

pub tree_may : (s : ScriptData) (j d : ℕ) → HasRoomForTree j s → MayAddTree s (tree_name j) (kind_by d) (let q : NodeNo = record { 0 = home_by d } in q)
tree_may s j d room =
    let few : j < 20000 = room.few in
    let count : length s.trees ≡ j = room.count in
    let left : has_no_tree_left 4 (kind_by d) s.trees ≡ false
    = tree_limits (length s.trees) (all_subs s.trees) (strict_trees s.trees + one_if (is_strict (kind_by d))) (update_subs s.trees + if_update (kind_by d) 1)
    (omega arith) (omega (arith, room.subs)) (omega (arith, room.strict, not_strict d)) in
    record {
      place = subst (λ (n : ℕ). nat_le n (home_by d) ≡ false) (sym room.nodes) (lt-leb 4 (home_by d) (omega arith));
      plain = name_plain 116 j refl (omega arith);
      free = room.free;
      room = subst (λ (n : ℕ). has_no_tree_left n (kind_by d) s.trees ≡ false) (sym room.nodes) left;
    }

pub tree_begun : (s : ScriptData) (j x : ℕ) → HasRoomForTree j s
    → with_tree s (tree_name j) (kind_by (upper_bits (next_draw x))) (let q : NodeNo = record { 0 = home_by (upper_bits (next_draw x)) } in q) ≡ with_begun s j (bare_tree j x 0)
tree_begun s j x room =
    ap (λ (n : ℕ). let t : ScriptData = record s { trees = s.trees ++ bare_tree j x 0 ∷ []; rows = s.rows ++ rows.Tree (record { 0 = n }) ∷ []; begun = true } in t) room.count

-- a subtransaction

sub_limits : (len subs z u : ℕ) → len < 64 → subs < 100000 → z ≡ 0 → (nat_le 64 len || nat_le 100000 subs || nat_lt 1000000 (z * u)) ≡ false
sub_limits len subs z u few less none =
    let a : nat_le 64 len ≡ false = lt-leb 64 len few in
    let c : nat_le 100000 subs ≡ false = lt-leb 100000 subs less in
    let e : nat_lt 1000000 (z * u) ≡ false = le-ltb 1000000 (z * u) (nothing_times z u none) in
    rw (a, c, e) refl

sub_may : (s : ScriptData) (j : ℕ) (t : Tree) (parent node : ℕ) → HasRoomForTree j s → one_if (is_strict t.kind) ≡ 0 → length t.subs ≤ 3 → parent < length t.subs → node < 4
    → MayAddSub (with_begun s j t) parent (let q : NodeNo = record { 0 = node } in q)
sub_may s j t parent node room plain few less at =
    let trees : List Tree = s.trees ++ t ∷ [] in
    let last : last_of trees ≡ Some t = last_of-seam s.trees t in
    let count : last_subs trees ≡ length t.subs = last_subs_is trees t last in
    let subs : all_subs trees ≡ all_subs s.trees + length t.subs = sum-push (λ (one : Tree). length one.subs) all_subs all_subs-sum s.trees t in
    let strict : strict_trees trees ≡ strict_trees s.trees + one_if (is_strict t.kind) = sum-push (λ (one : Tree). one_if (is_strict one.kind)) strict_trees strict-sum s.trees t in
    record {
      place = subst (λ (n : ℕ). nat_le n node ≡ false) (sym room.nodes) (lt-leb 4 node at);
      begun = refl;
      earlier = lt-leb (last_subs trees) parent (omega (arith, count, less));
      room = sub_limits (last_subs trees) (all_subs trees) (strict_trees trees) (update_subs trees + if_update (last_kind trees) 1)
          (omega (arith, count, few)) (omega (arith, subs, room.subs, room.few, few)) (omega (arith, strict, room.strict, plain));
    }

parent_less : (n e : ℕ) → 0 < n → parent_by n e < n
parent_less zero e h = absurd (omega arith)
parent_less (suc n) e h = omega arith

-- the parent and the node by their draws, where it isn't the root
pub parent_is : (n e : ℕ) → 0 < n → e % n ≡ parent_by n e
parent_is zero e h = absurd (omega arith)
parent_is (suc n) e h = refl

pub node_is : (home n e : ℕ) → 0 < n → e / 64 % 4 ≡ node_by home n e
node_is home zero e h = absurd (omega arith)
node_is home (suc n) e h = refl

node_less : (d n e : ℕ) → node_by (home_by d) n e < 4
node_less d zero e = omega arith
node_less d (suc n) e = omega arith

pub next_sub_may : (s : ScriptData) (j x n e : ℕ) → HasRoomForTree j s → 0 < n → n ≤ 3
    → MayAddSub (with_begun s j (tree_with j x n)) (parent_by n e) (let q : NodeNo = record { 0 = node_by (home_by (upper_bits (next_draw x))) n e } in q)
next_sub_may s j x n e room some few =
    let d : ℕ = upper_bits (next_draw x) in
    let len = length-subs (kind_by d) (home_by d) (next_draw x) n in
    sub_may s j (tree_with j x n) (parent_by n e) (node_by (home_by d) n e) room (not_strict d) (omega (arith, len, few)) (omega (arith, len, parent_less n e some))
    (node_less d n e)

pub sub_added : (s : ScriptData) (j x n : ℕ)
    → with_sub (with_begun s j (tree_with j x n)) (parent_by n (upper_bits (after_draws (suc n) (next_draw x))))
    (let q : NodeNo = record { 0 = node_by (home_by (upper_bits (next_draw x))) n (upper_bits (after_draws (suc n) (next_draw x))) } in q)
    ≡ with_begun s j (bare_tree j x n)
sub_added s j x n =
    ap (λ (ts : List Tree). let t : ScriptData = record s { trees = ts; rows = s.rows ++ rows.Tree (record { 0 = j }) ∷ []; begun = true } in t)
    (on_last-seam (push_sub (bare_sub (home_by (upper_bits (next_draw x))) n (upper_bits (after_draws (suc n) (next_draw x))))) s.trees (tree_with j x n))

-- an operation

length-items : (m : ℕ) → length (items_up_to m) ≡ m
length-items zero = refl
length-items (suc m) = omega (arith, length-append (items_up_to m) (generated_item_row m ∷ []), length-items m)

item_at : (n k : ℕ) → k < n → slice_get (items_up_to n) k ≡ Some (generated_item_row k)
item_at zero k less = absurd (omega arith)
item_at (suc n) k less = by (k == n) refl (λ small. item_at n k small) where
  by : (b : Bool) → (k == n) ≡ b → (k < n → slice_get (items_up_to n) k ≡ Some (generated_item_row k)) → slice_get (items_up_to (suc n)) k ≡ Some (generated_item_row k)
  by true e rest =
      let is : k ≡ n = grind (arith, nat_tests) in
      let same : k ≡ length (items_up_to n) = omega (arith, is, length-items n) in
      ap (λ (i : ℕ). slice_get (items_up_to (suc n)) i) same ∙ slice_get-seam (items_up_to n) [] (generated_item_row n) ∙ ap (λ (i : ℕ). Some (generated_item_row i)) (sym is)
  by false e rest =
      let small : k < n = grind (arith, nat_tests) in
      slice_get-old (items_up_to n) (generated_item_row n ∷ []) k (omega (arith, small, length-items n)) ∙ rest small

first_small : (b : Bool) (k : ℕ) → is_top k ≡ b → unsigned_abs (generated_item_row k).initial ≤ 1000
first_small true k e = rw e (omega (arith, ints))
first_small false k e = rw e (omega (arith, ints))

load_row : (items : List ItemRow) (k : ℕ) (row : ItemRow) → slice_get items k ≡ Some row → initial_load (slice_get items k) ≡ unsigned_abs row.initial
load_row items k row e = rw e refl

in_range : (f : Form) (m : ℕ) (b : Bool) → m ≤ 999 → b ≡ false → (nat_le m (most_amount f) && not b) ≡ true
in_range f m b small e =
    let le : nat_le m (most_amount f) ≡ true = le-leb m (most_amount f) (fits f) in rw (le, e) refl where
      fits : (f : Form) → m ≤ most_amount f
      fits forms.One = omega arith
      fits forms.Two = omega arith

same_node : (a b c : ℕ) → a ≡ c → b ≡ c → (a == b) ≡ true
same_node a b c ea eb = grind (arith, nat_tests)

op_limits : (a b c : ℕ) → a ≡ 0 → b < 200000 → c ≡ 0 → (nat_le 16 a || nat_le 200000 b || nat_lt 64 c) ≡ false
op_limits a b c none less puts =
    let ea : nat_le 16 a ≡ false = lt-leb 16 a (omega (arith, none)) in
    let eb : nat_le 200000 b ≡ false = lt-leb 200000 b less in
    let ec : nat_lt 64 c ≡ false = le-ltb 64 c (omega (arith, puts)) in
    rw (ea, eb, ec) refl

none_strict : (kind : TreeKind) (b : Bool) → one_if (is_strict kind) ≡ 0 → (is_strict kind && b) ≡ false
none_strict kinds.Update b e = refl
none_strict kinds.Read b e = refl
none_strict kinds.Strict b e = absurd (cc e)

op_may : (s : ScriptData) (j : ℕ) (name : List ℕ) (kind : TreeKind) (ss : List Sub) (p : SubNo) (q : NodeNo) (k : ℕ) (deed : Deed) → HasRoomForTree j s
    → one_if (is_strict kind) ≡ 0 → subs_ops ss ≤ 3 → subs_load k ss ≤ 2997 → subs_puts k ss ≡ 0 → k < 32 → q.0 ≡ k % 4
    → deed_fits kind (generated_item_row k).kind deed ≡ true → magnitude deed ≤ 999 → one_put deed ≡ 0 → draws_negative deed ≡ false
    → MayAddOp (with_begun s j (let t : Tree = record { name = name; kind = kind; subs = ss ++ (let b : Sub = record { parent = p; node = q; ops = [] } in b) ∷ []; written = None } in t)) k deed
op_may s j name kind ss p q k deed room plain few small none less at fits size put rises =
    let b : Sub = record { parent = p; node = q; ops = [] } in
    let t : Tree = record { name = name; kind = kind; subs = ss ++ b ∷ []; written = None } in
    let trees : List Tree = s.trees ++ t ∷ [] in
    let last : last_of trees ≡ Some t = last_of-seam s.trees t in
    let sub : last_sub trees ≡ Some b = last_sub_is trees t b last (last_of-seam ss b) in
    let row : slice_get s.items k ≡ Some (generated_item_row k) = ap (λ (is : List ItemRow). slice_get is k) room.items ∙ item_at 32 k less in
    let ops : all_ops trees ≡ all_ops s.trees + subs_ops t.subs = sum-push (λ (one : Tree). subs_ops one.subs) all_ops op_total.trees s.trees t in
    let its_ops : subs_ops t.subs ≡ subs_ops ss + 0 = sum-push (λ (one : Sub). length one.ops) subs_ops op_total.subs ss b in
    let puts : trees_puts k trees ≡ trees_puts k s.trees + subs_puts k t.subs = sum-push (λ (one : Tree). subs_puts k one.subs) (trees_puts k) (put_total k).trees s.trees t in
    let its_puts : subs_puts k t.subs ≡ subs_puts k ss + 0 = sum-push _ (subs_puts k) (put_total k).subs ss b in
    let loads : trees_load k trees ≡ trees_load k s.trees + subs_load k t.subs = sum-push (λ (one : Tree). subs_load k one.subs) (trees_load k) (load_total k).trees s.trees t in
    let its_load : subs_load k t.subs ≡ subs_load k ss + 0 = sum-push _ (subs_load k) (load_total k).subs ss b in
    let first : initial_load (slice_get s.items k) ≤ 1000 = omega (arith, load_row s.items k (generated_item_row k) row, first_small (is_top k) k refl) in
    let most : load k (with_begun s j t) + magnitude deed ≤ 1000000000000000
    = omega (arith, first, loads, its_load, room.loads k, room.few, small, size) in
    record {
      range = in_range s.form (magnitude deed) (draws_negative deed) size rises;
      item = subst (λ (is : List ItemRow). k < length is) (sym room.items) (omega (arith, less, length-items 32));
      begun = refl;
      node = same_node (node_at k s.items) (last_node trees) (k % 4) (node_row s.items k (generated_item_row k) row) (last_node_is trees b sub ∙ at);
      kind = ap (λ (one : TreeKind). deed_fits one (item_kind_at k s.items) deed) (last_kind_is trees t last)
          ∙ ap (λ (one : Kind). deed_fits kind one deed) (kind_row s.items k (generated_item_row k) row) ∙ fits;
      room = op_limits (last_count trees) (all_ops trees) (trees_puts k trees + one_put deed) (last_count_is trees b sub)
          (omega (arith, ops, its_ops, room.ops, room.few, few)) (omega (arith, puts, its_puts, room.puts k, none, put));
      load = subst (λ (f : Form). nat_lt (most_amount f) (load k (with_begun s j t) + magnitude deed) ≡ false) (sym room.form)
          (le-ltb 1000000000000000 (load k (with_begun s j t) + magnitude deed) most);
      once = ap (λ (o : Option Tree). elim o as (λ (z : Option Tree). Bool) [ None ↦ false | Some one ↦ is_strict one.kind && touch k one.subs ]) last
          ∙ none_strict kind (touch k t.subs) plain;
    }

fits_by : (b top : Bool) (d k e : ℕ) → (d % 4 == 0) ≡ b → is_top k ≡ top → deed_fits (kind_by d) (generated_item_row k).kind (deed_by (kind_by d) k (amount_by e)) ≡ true
fits_by true top d k e ek et = rw ek refl
fits_by false true d k e ek et = rw (ek, et) refl
fits_by false false d k e ek et = rw (ek, et) refl

rises_by : (b top : Bool) (d k e : ℕ) → (d % 4 == 0) ≡ b → is_top k ≡ top → draws_negative (deed_by (kind_by d) k (amount_by e)) ≡ false
rises_by true top d k e ek et = rw ek refl
rises_by false true d k e ek et = rw (ek, et) refl
rises_by false false d k e ek et = rw (ek, et) refl

pub item_less : (d n e : ℕ) → item_by (node_by (home_by d) n e) e < 32
item_less d n e = omega (arith, node_less d n e)

node_back : (node e : ℕ) → node < 4 → node ≡ item_by node e % 4
node_back node e h = omega arith

pub next_op_may : (s : ScriptData) (j x n e : ℕ) → HasRoomForTree j s → n ≤ 3 → e ≡ upper_bits (after_draws (suc n) (next_draw x))
    → MayAddOp (with_begun s j (bare_tree j x n)) (item_by (node_by (home_by (upper_bits (next_draw x))) n e) e)
    (deed_by (kind_by (upper_bits (next_draw x))) (item_by (node_by (home_by (upper_bits (next_draw x))) n e) e) (amount_by e))
next_op_may s j x n e room few drawn =
    let d : ℕ = upper_bits (next_draw x) in
    let node : ℕ = node_by (home_by d) n e in
    let k : ℕ = item_by node e in
    let ss : List Sub = subs_up_to (kind_by d) (home_by d) (next_draw x) n in
    let load = subs_load_most k (kind_by d) (home_by d) (next_draw x) n in
    let ops = subs_ops_most (kind_by d) (home_by d) (next_draw x) n in
    let at : node_by (home_by d) n (upper_bits (after_draws (suc n) (next_draw x))) ≡ k % 4
    = ap (λ (g : ℕ). node_by (home_by d) n g) (sym drawn) ∙ node_back node e (node_less d n e) in
    op_may s j (tree_name j) (kind_by d) ss (record { 0 = parent_by n (upper_bits (after_draws (suc n) (next_draw x))) })
    (record { 0 = node_by (home_by d) n (upper_bits (after_draws (suc n) (next_draw x))) }) k (deed_by (kind_by d) k (amount_by e)) room (not_strict d)
    (omega (arith, ops, few)) (omega (arith, load, few)) (subs_puts_none k (kind_by d) (home_by d) (next_draw x) n) (item_less d n e) at
    (fits_by (d % 4 == 0) (is_top k) d k e refl refl) (deed_small (kind_by d) k e) (no_put (kind_by d) k e) (rises_by (d % 4 == 0) (is_top k) d k e refl refl)

added : (s : ScriptData) (j x n : ℕ)
    → with_op (with_begun s j (bare_tree j x n)) (item_by (node_by (home_by (upper_bits (next_draw x))) n (upper_bits (after_draws (suc n) (next_draw x)))) (upper_bits (after_draws (suc n) (next_draw x))))
    (deed_by (kind_by (upper_bits (next_draw x)))
    (item_by (node_by (home_by (upper_bits (next_draw x))) n (upper_bits (after_draws (suc n) (next_draw x)))) (upper_bits (after_draws (suc n) (next_draw x))))
    (amount_by (upper_bits (after_draws (suc n) (next_draw x)))))
    ≡ with_begun s j (tree_with j x (suc n))
added s j x n =
    let d : ℕ = upper_bits (next_draw x) in
    let g : ℕ = upper_bits (after_draws (suc n) (next_draw x)) in
    let k : ℕ = item_by (node_by (home_by d) n g) g in
    let o : SubOp = record { item = record { 0 = k }; deed = deed_by (kind_by d) k (amount_by g) } in
    ap (λ (ts : List Tree). let t : ScriptData = record s { trees = ts; rows = s.rows ++ rows.Tree (record { 0 = j }) ∷ []; begun = true } in t)
    (on_last-seam (on_last_sub (push_op o)) s.trees (bare_tree j x n)
    ∙ ap (λ (ks : List Sub). s.trees ++ (let t : Tree = record { name = tree_name j; kind = kind_by d; subs = ks; written = None } in t) ∷ [])
    (on_last-seam (push_op o) (subs_up_to (kind_by d) (home_by d) (next_draw x) n) (bare_sub (home_by d) n g)))

pub op_added : (s : ScriptData) (j x n e : ℕ) → e ≡ upper_bits (after_draws (suc n) (next_draw x))
    → with_op (with_begun s j (bare_tree j x n)) (item_by (node_by (home_by (upper_bits (next_draw x))) n e) e)
    (deed_by (kind_by (upper_bits (next_draw x))) (item_by (node_by (home_by (upper_bits (next_draw x))) n e) e) (amount_by e))
    ≡ with_begun s j (tree_with j x (suc n))
op_added s j x n e drawn =
    let d : ℕ = upper_bits (next_draw x) in
    subst (λ (g : ℕ). with_op (with_begun s j (bare_tree j x n)) (item_by (node_by (home_by d) n g) g)
    (deed_by (kind_by d) (item_by (node_by (home_by d) n g) g) (amount_by g)) ≡ with_begun s j (tree_with j x (suc n))) (sym drawn) (added s j x n)
