-- A script stays valid when its last transaction fails and its compensated form takes its place. What limits say of a
-- transaction that fails, what is counted then, and what a script says of transactions as they were written.
use Rattle.std.proofs.Common.{◌≡◌, ◌<◌, ◌≤◌, ◌+◌, ◌*◌, ℕ, zero, suc, Bool, true, false, List, [], ◌∷◌, ◌++◌, length, map, get_or, refl, sym, ap, ◌∙◌, subst, arith, inl, inr}
use Rattle.std.specs.Prelude.{◌==◌, ◌||◌, not, if◌then◌else◌, IsTrue, Option, Some, None, nat_lt}
use Rattle.std.specs.List.{AllByRecursion, IsDistinct}
use Rattle.std.specs.Str.{bytes_eq}
use Rattle.std.proofs.lemmas.Bool.{and_from, cases_eq, or_from, le-ltb, ltb-false}
use Rattle.std.proofs.lemmas.Grind.{common_steps}
use Rattle.tv_base.proofs.Truths.{at_most, left_true, right_true}
use Rattle.tv_base.proofs.Chosen.{if_zero}
use Rattle.commute_ops.specs.declared.kinds.Op.TheVariants as ops
use Rattle.script_parts.specs.Adding.{any_from, are_crowded, are_many, failed_tree, is_heavy, last_may_fail, last_of, last_subs, last_tree_subs, may_fail, on_last, with_failed}
use Rattle.script_parts.specs.Counts.{all_ops, all_subs, if_update, one_put, ops_puts, strict_trees, subs_ops, subs_puts, trees_puts, update_subs}
use Rattle.commute_ops.specs.declared.kinds.TheConstants.{MOST_AMOUNT}
use Rattle.script_parts.specs.Amounts.{magnitude}
use Rattle.script_parts.specs.Forms.{most_amount}
use Rattle.script_parts.specs.Ranges.{draws_negative, is_in_range}
use Rattle.tx_trees.specs.Inside.{IsKept, script_data}
use Rattle.script_parts.specs.Loads.{IsReloaded, MayReload, Reloads, OpWithin, SubWithin, subs_heavy}
use Rattle.script_parts.specs.inside.Totals.{AreTotals}
use Rattle.script_parts.specs.Names.{is_name}
use Rattle.script_parts.specs.Rebuilt.{written_subs}
use Rattle.script_parts.specs.inside.Passing.{MayFail, MayUndo}
use Rattle.script_parts.specs.ScriptData.{ScriptData, is_update, is_strict}
use Rattle.script_parts.specs.Undone.{each_from, goes_from, inverse, is_add, is_undone_sub, negated, negated_deed, ops_add, staying, stays, subs_add, undoes, undone}
use Rattle.script_parts.specs.Valid.{AreSubs, AreWithin, HasFailed, IsOp, IsTree, IsValid, MayAllHaveFailed, MayHaveFailed, as_written, load, ops_load, subs_load, tree_names, trees_load}
use Rattle.std.specs.Global.{Vec}
use Rattle.tv_base.specs.Sums.{one_if}
use Rattle.tx_trees.specs.declared.script.Script.TheInside.{Inside}
use Rattle.script_parts.specs.declared.parts.Deed.{Deed}
use Rattle.script_parts.specs.declared.parts.Deed.TheVariants as deeds
use Rattle.script_parts.specs.declared.parts.Form.{Form}
use Rattle.script_parts.specs.declared.parts.Form.TheVariants as forms
use Rattle.script_parts.specs.declared.parts.ItemRow.{ItemRow}
use Rattle.script_parts.specs.declared.parts.Sub.{Sub}
use Rattle.script_parts.specs.declared.parts.SubOp.{SubOp}
use Rattle.script_parts.specs.declared.parts.Tree.{Tree}
use Rattle.script_parts.specs.declared.parts.TreeKind.{TreeKind}
use Rattle.script_parts.specs.declared.parts.TreeKind.TheVariants as trees
use Rattle.script_parts.specs.declared.parts.Written.{Written}
use Rattle.script_parts.proofs.Last.{last_at, last_subs_is, last_tree_subs_is, length-on_last}
use Rattle.script_parts.proofs.Lists.{last_weight, all-last, all-on_last, all-weaker, last_of-on_last, last_of-seam, last_some, or_left, or_right, split_last, sum-replaced}
use Rattle.script_parts.proofs.SubsOf.{most_amount-small, only_update}
use Rattle.tx_trees.proofs.Stays.{failed-last, last_written_is, names-on_last, op_within}
use Rattle.script_parts.proofs.Loading.{all_light, not_heavy}
use Rattle.script_parts.proofs.Totals.{all_subs-sum, load_total, op_load, op_total, put_total, strict-sum, update-sum}
use Rattle.tx_trees.proofs.UndoneTrees.{undone_some, undone_valid}

-- tests

-- of numbers from k on none passes a test, or each fails it
pub any_none : (p : ℕ → Bool) (k n i : ℕ) → any_from p k n ≡ false → k ≤ i → i < k + n → p i ≡ false
any_none p k zero i e from lt = absurd (omega arith)
any_none p k (suc n) i e from lt = elim (cases_eq i k) [
  | inl here ↦ ap p here ∙ or_left (p k) (any_from p (suc k) n) e
  | inr later ↦ any_none p (suc k) n i (or_right (p k) (any_from p (suc k) n) e) (omega arith) (omega arith)
]

pub none_any : (p : ℕ → Bool) (k n : ℕ) → ((i : ℕ) → k ≤ i → i < k + n → p i ≡ false) → any_from p k n ≡ false
none_any p k zero none = refl
none_any p k (suc n) none = or_from (p k) (any_from p (suc k) n) (none k (omega arith) (omega arith)) (none_any p (suc k) n (λ i from lt. none i (omega arith) (omega arith)))

-- two tests that fail together
same_answer : (a b : Bool) → (a ≡ false → b ≡ false) → (b ≡ false → a ≡ false) → a ≡ b
same_answer false b f g = sym (f refl)
same_answer true true f g = refl
same_answer true false f g = g refl

-- what the last tree is

pub last_may_fail_is : (ts : List Tree) (t : Tree) → last_of ts ≡ Some t → last_may_fail ts ≡ may_fail t
last_may_fail_is ts t e = rw (e, last_may_fail) refl

pub may_fail_is : (t : Tree) → t.kind ≡ trees.Update → subs_add t.subs ≡ true → may_fail t ≡ true
may_fail_is t e adds = and_from (is_update t.kind) (subs_add t.subs) (ap is_update e) adds

pub fails_update : (t : Tree) → may_fail t ≡ true → t.kind ≡ trees.Update
fails_update t e = only_update t.kind (left_true (is_update t.kind) (subs_add t.subs) e)

pub fails_adds : (t : Tree) → may_fail t ≡ true → subs_add t.subs ≡ true
fails_adds t e = right_true (is_update t.kind) (subs_add t.subs) e

-- limits

pub crowded_not : (ts : List Tree) → last_subs ts ≤ 64 → all_subs ts ≤ 100000 → all_ops ts ≤ 200000 → strict_trees ts * update_subs ts ≤ 1000000 → are_crowded ts ≡ false
crowded_not ts tree subs ops pairs =
    or_from _ _ (or_from _ _ (or_from _ _ (le-ltb 64 (last_subs ts) tree) (le-ltb 100000 (all_subs ts) subs)) (le-ltb 200000 (all_ops ts) ops))
    (le-ltb 1000000 (strict_trees ts * update_subs ts) pairs)

pub record RoomLeft (ts : List Tree) : Type 0 where
  pub tree : last_subs ts ≤ 64
  pub subs : all_subs ts ≤ 100000
  pub ops : all_ops ts ≤ 200000
  pub pairs : strict_trees ts * update_subs ts ≤ 1000000

pub room_left : (ts : List Tree) → are_crowded ts ≡ false → RoomLeft ts
room_left ts e =
    let a = nat_lt 64 (last_subs ts) in
    let b = nat_lt 100000 (all_subs ts) in
    let c = nat_lt 200000 (all_ops ts) in
    let d = are_many (strict_trees ts) (update_subs ts) in
    let f = or_left (a || b || c) d e in
    let g = or_left (a || b) c f in
    record {
      tree = ltb-false 64 (last_subs ts) (or_left a b g);
      subs = ltb-false 100000 (all_subs ts) (or_right a b g);
      ops = ltb-false 200000 (all_ops ts) (or_right (a || b) c f);
      pairs = ltb-false 1000000 (strict_trees ts * update_subs ts) (or_right (a || b || c) d e);
    }

-- a tree of `add` operations has no `put`, and neither has its undone form

add_no_put : (d : Deed) → is_add d ≡ true → one_put d ≡ 0
add_no_put (deeds.Apply (ops.Add a)) e = refl
add_no_put (deeds.Apply (ops.Top a)) e = refl
add_no_put (deeds.Apply (ops.Put a)) e = absurd cc
add_no_put deeds.Get e = refl
add_no_put (deeds.Set a) e = refl
add_no_put (deeds.Draw a) e = refl

ops_no_put : (x : ℕ) (os : List SubOp) → ops_add os ≡ true → ops_puts x os ≡ 0
ops_no_put x [] e = refl
ops_no_put x (o ∷ os) e =
    omega (arith, if_zero (o.item.0 == x) (one_put o.deed) (add_no_put o.deed (left_true (is_add o.deed) (ops_add os) e)), ops_no_put x os (right_true (is_add o.deed) (ops_add os) e))

pub subs_no_put : (x : ℕ) (ss : List Sub) → subs_add ss ≡ true → subs_puts x ss ≡ 0
subs_no_put x [] e = refl
subs_no_put x (s ∷ ss) e = omega (arith, ops_no_put x s.ops (left_true (ops_add s.ops) (subs_add ss) e), subs_no_put x ss (right_true (ops_add s.ops) (subs_add ss) e))

adds-append : (xs ys : List Sub) → subs_add xs ≡ true → subs_add ys ≡ true → subs_add (xs ++ ys) ≡ true
adds-append [] ys e f = f
adds-append (x ∷ xs) ys e f = and_from (ops_add x.ops) (subs_add (xs ++ ys)) (left_true (ops_add x.ops) (subs_add xs) e) (adds-append xs ys (right_true (ops_add x.ops) (subs_add xs) e) f)

negated_adds : (d : Deed) → is_add d ≡ true → is_add (negated_deed d) ≡ true
negated_adds (deeds.Apply (ops.Add a)) e = refl
negated_adds (deeds.Apply (ops.Top a)) e = e
negated_adds (deeds.Apply (ops.Put a)) e = e
negated_adds deeds.Get e = e
negated_adds (deeds.Set a) e = e
negated_adds (deeds.Draw a) e = e

all_negated : (os : List SubOp) → ops_add os ≡ true → ops_add (map negated os) ≡ true
all_negated [] e = refl
all_negated (o ∷ os) e =
    and_from (is_add (negated_deed o.deed)) (ops_add (map negated os)) (negated_adds o.deed (left_true (is_add o.deed) (ops_add os) e)) (all_negated os (right_true (is_add o.deed) (ops_add os) e))

left_adds : (b : Bool) (os : List SubOp) → ops_add os ≡ true → ops_add (if b then [] else os) ≡ true
left_adds true os e = refl
left_adds false os e = e

if_none : (b : Bool) (x : Sub) → ops_add x.ops ≡ true → subs_add (if b then [] else x ∷ []) ≡ true
if_none true x e = refl
if_none false x e = and_from (ops_add x.ops) true e refl

if_some : (b : Bool) (x : Sub) → ops_add x.ops ≡ true → subs_add (if b then x ∷ [] else []) ≡ true
if_some true x e = and_from (ops_add x.ops) true e refl
if_some false x e = refl

staying_adds : (failed : ℕ) (goes : List Bool) (k : ℕ) (ss : List Sub) → subs_add ss ≡ true → subs_add (each_from (stays failed goes) k ss) ≡ true
staying_adds failed goes k [] e = refl
staying_adds failed goes k (s ∷ ss) e =
    adds-append (stays failed goes k s) (each_from (stays failed goes) (k + 1) ss)
    (if_none (get_or goes k false) (staying failed goes k s) (left_adds (k == failed) s.ops (left_true (ops_add s.ops) (subs_add ss) e)))
    (staying_adds failed goes (k + 1) ss (right_true (ops_add s.ops) (subs_add ss) e))

inverses_add : (failed : ℕ) (goes : List Bool) (k : ℕ) (ss : List Sub) → subs_add ss ≡ true → subs_add (each_from (undoes failed goes) k ss) ≡ true
inverses_add failed goes k [] e = refl
inverses_add failed goes k (s ∷ ss) e =
    adds-append (undoes failed goes k s) (each_from (undoes failed goes) (k + 1) ss)
    (if_some (is_undone_sub failed goes k s) (inverse failed goes s) (all_negated s.ops (left_true (ops_add s.ops) (subs_add ss) e)))
    (inverses_add failed goes (k + 1) ss (right_true (ops_add s.ops) (subs_add ss) e))

pub undone_adds : (ss : List Sub) (failed : ℕ) → subs_add ss ≡ true → subs_add (undone ss failed) ≡ true
undone_adds ss failed e =
    let goes = goes_from failed [] ss in
    adds-append (each_from (stays failed goes) 0 ss) (each_from (undoes failed goes) 0 ss) (staying_adds failed goes 0 ss e) (inverses_add failed goes 0 ss e)

-- the sums after the last tree has failed

module _ (ts : List Tree) (k : ℕ) (t : Tree) (last : last_of ts ≡ Some t) where
  pub failed_subs : all_subs (on_last (failed_tree k) ts) + length t.subs ≡ all_subs ts + length (undone t.subs k)
  failed_subs = sum-replaced (λ (u : Tree). length u.subs) all_subs all_subs-sum (failed_tree k) ts t last

  pub failed_ops : all_ops (on_last (failed_tree k) ts) + subs_ops t.subs ≡ all_ops ts + subs_ops (undone t.subs k)
  failed_ops = sum-replaced (λ (u : Tree). subs_ops u.subs) all_ops op_total.trees (failed_tree k) ts t last

  pub failed_loads : (x : ℕ) → trees_load x (on_last (failed_tree k) ts) + subs_load x t.subs ≡ trees_load x ts + subs_load x (undone t.subs k)
  failed_loads x = sum-replaced (λ (u : Tree). subs_load x u.subs) (trees_load x) (load_total x).trees (failed_tree k) ts t last

  pub failed_strict : strict_trees (on_last (failed_tree k) ts) ≡ strict_trees ts
  failed_strict = omega (arith, sum-replaced (λ (u : Tree). one_if (is_strict u.kind)) strict_trees strict-sum (failed_tree k) ts t last)

  pub failed_updates : t.kind ≡ trees.Update → update_subs (on_last (failed_tree k) ts) + length t.subs ≡ update_subs ts + length (undone t.subs k)
  failed_updates is =
      let e = sum-replaced (λ (u : Tree). if_update u.kind (length u.subs)) update_subs update-sum (failed_tree k) ts t last in
      omega (arith, e, ap (λ (q : TreeKind). if_update q (length t.subs)) is, ap (λ (q : TreeKind). if_update q (length (undone t.subs k))) is)

  pub failed_puts : (x : ℕ) → subs_add t.subs ≡ true → trees_puts x (on_last (failed_tree k) ts) ≡ trees_puts x ts
  failed_puts x adds =
      omega (arith, sum-replaced (λ (u : Tree). subs_puts x u.subs) (trees_puts x) (put_total x).trees (failed_tree k) ts t last, subs_no_put x t.subs adds, subs_no_put x (undone t.subs k) (undone_adds t.subs k adds))

-- the last tree, which may fail

pub valid_failed : (s : ScriptData) (k : ℕ) → MayFail s k → IsValid s → IsValid (with_failed s k)
valid_failed s k may h =
    let f = failed_tree k in
    let some = h.begun may.begun in
    let parts = split_last s.trees some in
    let front = parts.0 in
    let t = parts.1 in
    let last : last_of s.trees ≡ Some t = ap last_of parts.2 ∙ last_of-seam front t in
    let fails : may_fail t ≡ true = sym (last_may_fail_is s.trees t last) ∙ may.adds in
    let update = fails_update t fails in
    let adds = fails_adds t fails in
    let th : IsTree s.nodes s.items t = all-last (IsTree s.nodes s.items) s.trees t h.trees last in
    let within : k < length t.subs = omega (arith, may.earlier, last_subs_is s.trees t last) in
    let subs : AreSubs s.nodes s.items trees.Update 0 t.subs = subst (λ (q : TreeKind). AreSubs s.nodes s.items q 0 t.subs) update th.subs in
    let room = room_left (on_last f s.trees) may.room in
    let count : last_subs (on_last f s.trees) ≡ length (undone t.subs k) = last_subs_is (on_last f s.trees) (f t) (last_of-on_last f s.trees t last) in
    let new : IsTree s.nodes s.items (f t) = record {
      root = undone_some s.nodes s.items t.subs k within subs;
      few = omega (arith, room.tree, count);
      subs = subst (λ (q : TreeKind). AreSubs s.nodes s.items q 0 (undone t.subs k)) (sym update) (undone_valid s.nodes s.items t.subs k within subs);
      name = th.name;
      once = λ strict. absurd (cc (strict, update));
    } in
    let none : t.written ≡ None = sym (last_written_is s.trees t last) ∙ h.unfailed may.begun in
    let w : Written = record { failed = record { 0 = k }; subs = t.subs } in
    let before : as_written (f t) w ≡ t = ap (λ (x : Option Written). let v : Tree = record { name = t.name; kind = t.kind; subs = t.subs; written = x } in v) (sym none) in
    let whole : s.trees ≡ front ++ as_written (f t) w ∷ [] = parts.2 ∙ ap (λ (v : Tree). front ++ v ∷ []) (sym before) in
    let limits : AreWithin s.form s.items s.trees = record { subs = h.limited.subs; ops = h.limited.ops; puts = h.limited.puts; loads = h.loads; pairs = h.limited.pairs } in
    let failing : HasFailed s.form s.nodes s.items front (f t) w = record {
      second = may.second;
      update = update;
      adds = adds;
      failed = within;
      subs = refl;
      tree = record { root = th.root; few = th.few; subs = th.subs; name = th.name; once = th.once };
      within = subst (AreWithin s.form s.items) whole limits;
    } in
    let step : (u : Tree) → last_of s.trees ≡ Some u → IsTree s.nodes s.items u → IsTree s.nodes s.items (f u) = λ u e _.
    let same : t ≡ u = some_same t u (sym last ∙ e) in
    subst (λ (v : Tree). IsTree s.nodes s.items (f v)) same new in
    let len = length-on_last f s.trees in
    record {
      some_nodes = h.some_nodes;
      few_nodes = h.few_nodes;
      few_items = h.few_items;
      few_trees = omega (arith, h.few_trees);
      items = h.items;
      trees = all-on_last (IsTree s.nodes s.items) f s.trees h.trees step;
      loads = λ x lt. ltb-false (most_amount s.form) (load x (with_failed s k))
          (any_none (λ (y : ℕ). nat_lt (most_amount s.form) (load y (with_failed s k))) 0 (length s.items) x may.light (omega arith) (omega arith));
      rows = rw len h.rows;
      begun = λ e. absurd cc;
      distinct_items = h.distinct_items;
      distinct_trees = subst (IsDistinct bytes_eq) (sym (names-on_last f s.trees (λ u. refl))) h.distinct_trees;
      limited = record {
        subs = room.subs;
        ops = room.ops;
        puts = λ x lt. omega (arith, h.limited.puts x lt, failed_puts s.trees k t last x adds);
        advances = h.limited.advances;
        loses = h.limited.loses;
        strict = omega (arith, h.limited.strict, failed_strict s.trees k t last);
        pairs = room.pairs;
        places = rw len h.limited.places;
      };
      first_form = h.first_form;
      unfailed = λ e. absurd cc;
      failed = failed-last s.form s.nodes s.items f s.trees front t parts.2 failing h.failed;
    }
  where
    some_same : (a b : Tree) → Some a ≡ Some b → a ≡ b
    some_same a b e = let P : Option Tree → Type 0 = λ o. elim o [ None ↦ ⊥ | Some z ↦ a ≡ z ] in subst P e refl

-- what is known of the last tree where it may fail

pub record LastFails (s : ScriptData) (k : ℕ) : Type 0 where
  pub tree : Tree
  pub last : last_of s.trees ≡ Some tree
  pub count : last_subs s.trees ≡ length tree.subs
  pub same_subs : last_tree_subs s.trees ≡ tree.subs
  pub update : tree.kind ≡ trees.Update
  pub adds : subs_add tree.subs ≡ true
  pub few : length tree.subs ≤ 64
  pub before : AreSubs s.nodes s.items trees.Update 0 tree.subs
  pub after : AreSubs s.nodes s.items trees.Update 0 (undone tree.subs k)

pub last_fails : (s : ScriptData) (k : ℕ) → s.begun ≡ true → last_may_fail s.trees ≡ true → k < last_subs s.trees → IsValid s → LastFails s k
last_fails s k begun may earlier h =
    let found = last_some s.trees (h.begun begun) in
    let t = found.0 in
    let fails : may_fail t ≡ true = sym (last_may_fail_is s.trees t found.1) ∙ may in
    let th : IsTree s.nodes s.items t = all-last (IsTree s.nodes s.items) s.trees t h.trees found.1 in
    let count = last_subs_is s.trees t found.1 in
    let before : AreSubs s.nodes s.items trees.Update 0 t.subs = subst (λ (q : TreeKind). AreSubs s.nodes s.items q 0 t.subs) (fails_update t fails) th.subs in
    record {
      tree = t;
      last = found.1;
      count = count;
      same_subs = last_tree_subs_is s.trees t found.1;
      update = fails_update t fails;
      adds = fails_adds t fails;
      few = th.few;
      before = before;
      after = undone_valid s.nodes s.items t.subs k (omega arith) before;
    }

-- subtransactions have few operations, of items that are there and of small amounts

pub few_ops : (nodes : ℕ) (items : List ItemRow) (kind : TreeKind) (k : ℕ) (ss : List Sub) → AreSubs nodes items kind k ss → subs_ops ss ≤ 16 * length ss
few_ops nodes items kind k [] h = omega arith
few_ops nodes items kind k (s ∷ ss) h = omega (arith, h.0.few, few_ops nodes items kind (k + 1) ss h.1)

-- a magnitude in the wider range
small_op : (o : SubOp) → IsTrue (is_in_range forms.Two o.deed) → magnitude o.deed ≤ MOST_AMOUNT
small_op o e = at_most (magnitude o.deed) MOST_AMOUNT (not (draws_negative o.deed)) e

pub small_amounts : (nodes : ℕ) (items : List ItemRow) (kind : TreeKind) (k : ℕ) (ss : List Sub) → AreSubs nodes items kind k ss → AllByRecursion (λ (s : Sub). AllByRecursion (λ (o : SubOp). magnitude o.deed ≤ MOST_AMOUNT) s.ops) ss
small_amounts nodes items kind k [] h = tt
small_amounts nodes items kind k (s ∷ ss) h = (
  all-weaker (λ (o : SubOp). IsTrue (is_in_range forms.Two o.deed)) (λ (o : SubOp). magnitude o.deed ≤ MOST_AMOUNT) small_op s.ops h.0.amounts,
  small_amounts nodes items kind (k + 1) ss h.1,
)

-- the subtransactions of the last tree
pub record LastSubs (s : ScriptData) (subs : List Sub) : Type 0 where
  pub same : subs ≡ last_tree_subs s.trees
  pub count : length subs ≡ last_subs s.trees
  pub few : length subs ≤ 64
  pub small : AllByRecursion (λ (x : Sub). AllByRecursion (λ (o : SubOp). magnitude o.deed ≤ MOST_AMOUNT) x.ops) subs

pub last_subs_here : (s : ScriptData) (k : ℕ) (t : Tree) → suc k ≡ length s.trees → t ≡ get_or s.trees k t → IsValid s → LastSubs s t.subs
last_subs_here s k t e at h =
    let last = last_at s.trees k t e at in
    let th = all-last (IsTree s.nodes s.items) s.trees t h.trees last in
    record { same = sym (last_tree_subs_is s.trees t last); count = sym (last_subs_is s.trees t last); few = th.few; small = small_amounts s.nodes s.items t.kind 0 t.subs th.subs }

one_load : (x : ℕ) (o : SubOp) → IsTrue (is_in_range forms.Two o.deed) → op_load x o ≤ MOST_AMOUNT
one_load x o e = by (o.item.0 == x) (at_most (magnitude o.deed) MOST_AMOUNT (not (draws_negative o.deed)) e)
  where
    by : (b : Bool) → magnitude o.deed ≤ MOST_AMOUNT → (if b then magnitude o.deed else 0) ≤ MOST_AMOUNT
    by true le = le
    by false le = omega arith

small_ops : (x : ℕ) (os : List SubOp) → AllByRecursion (λ (o : SubOp). IsTrue (is_in_range forms.Two o.deed)) os → ops_load x os ≤ 1000000000000000000000000000000 * length os
small_ops x [] h = omega arith
small_ops x (o ∷ os) h = omega (arith, one_load x o h.0, small_ops x os h.1)

pub small_subs : (nodes : ℕ) (items : List ItemRow) (kind : TreeKind) (k x : ℕ) (ss : List Sub) → AreSubs nodes items kind k ss → subs_load x ss ≤ 16000000000000000000000000000000 * length ss
small_subs nodes items kind k x [] h = omega arith
small_subs nodes items kind k x (s ∷ ss) h = omega (arith, small_ops x s.ops h.0.amounts, h.0.few, small_subs nodes items kind (k + 1) x ss h.1)

pub subs_within : (nodes : ℕ) (items : List ItemRow) (kind : TreeKind) (k : ℕ) (ss : List Sub) → AreSubs nodes items kind k ss → AllByRecursion (SubWithin (length items)) ss
subs_within nodes items kind k [] h = tt
subs_within nodes items kind k (s ∷ ss) h = (
  all-weaker (IsOp items kind s.node.0) (OpWithin (length items)) (λ o is. op_within items kind s.node.0 o is) s.ops h.0.ops,
  subs_within nodes items kind (k + 1) ss h.1,
)

-- what the functions that undo the last tree say

some_last : (ts : List Tree) (found : Option Tree) → last_of ts ≡ found → 0 < last_subs ts → (t : Tree) × (last_of ts ≡ Some t)
some_last ts None e lt = let none : last_subs ts ≡ 0 = rw (e, last_subs) refl in absurd (omega arith)
some_last ts (Some t) e lt = (t, e)

pub failed_count : (ts : List Tree) (k m : ℕ) (expanded : List Sub) → m < last_subs ts → expanded ≡ undone (last_tree_subs ts) k → last_subs (on_last (failed_tree k) ts) ≡ length expanded
failed_count ts k m expanded lt is =
    let found = some_last ts (last_of ts) refl (omega arith) in
    let t = found.0 in
    last_subs_is (on_last (failed_tree k) ts) (failed_tree k t) (last_of-on_last (failed_tree k) ts t found.1)
    ∙ sym (ap (λ (x : List Sub). length x) (is ∙ ap (λ (x : List Sub). undone x k) (last_tree_subs_is ts t found.1)))

true_first : (a b c d : Bool) → a ≡ true → (a || b || c || d) ≡ true
true_first true b c d e = refl
true_first false b c d e = absurd cc

pub crowded_tree : (ts : List Tree) (n : ℕ) → last_subs ts ≡ n → 64 < n → true ≡ are_crowded ts
crowded_tree ts n is lt =
    sym (true_first (nat_lt 64 (last_subs ts)) (nat_lt 100000 (all_subs ts)) (nat_lt 200000 (all_ops ts)) (are_many (strict_trees ts) (update_subs ts)) (lt_true 64 (last_subs ts) (omega arith)))
  where
    lt_true : (a b : ℕ) → a < b → nat_lt a b ≡ true
    lt_true a b lt = grind (arith, common_steps)

pub crowded_last : (ts : List Tree) (b : Bool) → last_subs ts ≤ 64 → all_subs ts ≤ 100000 → all_ops ts ≤ 200000 → b ≡ are_many (strict_trees ts) (update_subs ts) → b ≡ are_crowded ts
crowded_last ts b tree subs ops e =
    e ∙ sym (ap (λ (x : Bool). x || nat_lt 100000 (all_subs ts) || nat_lt 200000 (all_ops ts) || are_many (strict_trees ts) (update_subs ts)) (le-ltb 64 (last_subs ts) tree)
    ∙ ap (λ (x : Bool). false || x || nat_lt 200000 (all_ops ts) || are_many (strict_trees ts) (update_subs ts)) (le-ltb 100000 (all_subs ts) subs)
    ∙ ap (λ (x : Bool). false || false || x || are_many (strict_trees ts) (update_subs ts)) (le-ltb 200000 (all_ops ts) ops))

-- how many there are with the undone form
pub record Sizes (s : ScriptData) (k : ℕ) (expanded : List Sub) : Type 0 where
  pub few_before : last_subs s.trees ≤ 64
  pub few_ops_before : subs_ops (last_tree_subs s.trees) ≤ 1024
  pub few_ops_after : subs_ops expanded ≤ 1024
  pub subs : all_subs (with_failed s k).trees + last_subs s.trees ≡ all_subs s.trees + length expanded
  pub ops : all_ops (with_failed s k).trees + subs_ops (last_tree_subs s.trees) ≡ all_ops s.trees + subs_ops expanded
  pub updates : update_subs (with_failed s k).trees + last_subs s.trees ≡ update_subs s.trees + length expanded

pub sizes_are : (s : ScriptData) (k : ℕ) (expanded : List Sub) → s.begun ≡ true → last_may_fail s.trees ≡ true → k < last_subs s.trees → expanded ≡ undone (last_tree_subs s.trees) k → length expanded ≤ 64
    → IsValid s → Sizes s k expanded
sizes_are s k expanded begun may earlier is few h =
    let f = last_fails s k begun may earlier h in
    let t = f.tree in
    let same : expanded ≡ undone t.subs k = is ∙ ap (λ (x : List Sub). undone x k) f.same_subs in
    let len = ap (λ (x : List Sub). length x) same in
    let ops_len = ap subs_ops same in
    let before_len = ap subs_ops f.same_subs in
    record {
      few_before = omega (arith, f.count, f.few);
      few_ops_before = omega (arith, before_len, few_ops s.nodes s.items trees.Update 0 t.subs f.before, f.few);
      few_ops_after = omega (arith, ops_len, few_ops s.nodes s.items trees.Update 0 (undone t.subs k) f.after, len, few);
      subs = omega (arith, failed_subs s.trees k t f.last, f.count, len);
      ops = omega (arith, failed_ops s.trees k t f.last, before_len, ops_len);
      updates = omega (arith, failed_updates s.trees k t f.last f.update, f.count, len);
    }

-- the last tree of a script is to be undone
pub record IsFailing (s : Inside) (k : ℕ) (expanded : List Sub) : Type 0 where
  pub kept : IsKept s
  pub may : MayUndo (script_data s) k expanded
  pub few : length expanded ≤ 64

-- the same, by what a script is seen as
pub failing_is : (s : Inside) (d : ScriptData) (k : ℕ) (expanded : List Sub) → script_data s ≡ d → IsKept s → MayUndo d k expanded → IsFailing s k expanded
failing_is s d k expanded view h may = record {
  kept = h;
  may = subst (λ (x : ScriptData). MayUndo x k expanded) (sym view) may;
  few = omega (arith, (room_left (with_failed d k).trees may.room).tree, failed_count d.trees k k expanded may.earlier may.undone);
}

-- the totals with the undone form
module _ (s : Inside) (k : ℕ) (expanded : List Sub) (q : IsFailing s k expanded) where
  pub may_reload : MayReload s.totals.items (last_tree_subs s.trees.items) expanded
  may_reload =
      let d = script_data s in
      let h = q.kept in
      let f = last_fails d k q.may.begun q.may.adds q.may.earlier h.valid in
      let t = f.tree in
      let same : expanded ≡ undone t.subs k = q.may.undone ∙ ap (λ (x : List Sub). undone x k) f.same_subs in
      let before = subst (λ (x : List Sub). AreSubs d.nodes d.items trees.Update 0 x) (sym f.same_subs) f.before in
      let after = subst (λ (x : List Sub). AreSubs d.nodes d.items trees.Update 0 x) (sym same) f.after in
      record {
        off_within = subst (λ (n : ℕ). AllByRecursion (SubWithin n) (last_tree_subs s.trees.items)) (sym h.len) (subs_within d.nodes d.items trees.Update 0 (last_tree_subs s.trees.items) before);
        on_within = subst (λ (n : ℕ). AllByRecursion (SubWithin n) expanded) (sym h.len) (subs_within d.nodes d.items trees.Update 0 expanded after);
        enough = λ x lt. omega (arith, h.totals x (omega (arith, h.len)), last_weight (λ (u : Tree). subs_load x u.subs) (trees_load x) (load_total x).trees s.trees.items t f.last, ap (subs_load x) f.same_subs);
        room = λ x lt. omega (arith, h.totals x (omega (arith, h.len)), h.valid.loads x (omega (arith, h.len)), most_amount-small d.form, small_subs d.nodes d.items trees.Update 0 x expanded after, q.few);
      }

  pub reloaded_totals : (now : List ℕ) → IsReloaded s.totals.items now (last_tree_subs s.trees.items) expanded → AreTotals now (with_failed (script_data s) k)
  reloaded_totals now r =
      let d = script_data s in
      let h = q.kept in
      let f = last_fails d k q.may.begun q.may.adds q.may.earlier h.valid in
      let t = f.tree in
      let same : expanded ≡ undone t.subs k = q.may.undone ∙ ap (λ (x : List Sub). undone x k) f.same_subs in
      record {
        len = omega (arith, r.len, h.len);
        loads = λ x lt. omega (arith, r.loads x (omega (arith, h.len)), h.totals x lt, failed_loads s.trees.items k t f.last x, ap (subs_load x) f.same_subs, ap (subs_load x) same);
      }

  -- an item is too heavy just where one is that the undone form has operations on
  pub heavy_is : (now : List ℕ) → IsReloaded s.totals.items now (last_tree_subs s.trees.items) expanded → subs_heavy (most_amount s.form) now expanded ≡ is_heavy (with_failed (script_data s) k)
  heavy_is now r =
      let h = q.kept in
      let d = with_failed (script_data s) k in
      let most = most_amount s.form in
      let t = reloaded_totals now r in
      let within = subst (λ (n : ℕ). AllByRecursion (SubWithin n) expanded) (sym r.len) may_reload.on_within in
      let small : (x : ℕ) → x < length s.totals.items → get_or s.totals.items x 0 ≤ most = λ x lt. omega (arith, h.totals x (omega (arith, h.len)), h.valid.loads x (omega (arith, h.len))) in
      same_answer (subs_heavy most now expanded) (is_heavy d)
      (λ light.
      none_any (λ (x : ℕ). nat_lt most (load x d)) 0 (length s.items.items) (λ x from lt. le-ltb most (load x d)
      (omega (arith, t.loads x (omega arith), all_light s.totals.items now (last_tree_subs s.trees.items) expanded most r small light x (omega (arith, h.len))))))
      (λ light.
      not_heavy most now expanded within (λ x lt.
      let here : x < length s.items.items = omega (arith, t.len) in
      omega (arith, t.loads x here, ltb-false most (load x d) (any_none (λ (y : ℕ). nat_lt most (load y d)) 0 (length s.items.items) x light (omega arith) (omega (arith, here))))))

  -- what was done with the totals, by what a script keeps
  pub own_totals : (most : ℕ) (off on : List Sub) (now : List ℕ) (b : Bool) → most ≡ most_amount s.form → off ≡ last_tree_subs s.trees.items → on ≡ expanded → Reloads most s.totals.items now off on b
      → Reloads (most_amount s.form) s.totals.items now (last_tree_subs s.trees.items) expanded b
  own_totals most off on now b most_is off_is on_is r =
      subst (λ (m : ℕ). Reloads m s.totals.items now (last_tree_subs s.trees.items) expanded b) most_is
      (subst (λ (x : List Sub). Reloads most s.totals.items now x expanded b) off_is
      (subst (λ (x : List Sub). Reloads most s.totals.items now off x b) on_is r))

  -- the totals were put just where no item is too heavy
  pub put_if_light : (d : ScriptData) (now : List ℕ) (b : Bool) → script_data s ≡ d → Reloads (most_amount s.form) s.totals.items now (last_tree_subs s.trees.items) expanded b
      → b ≡ not (is_heavy (with_failed d k))
  put_if_light d now b view r = r.light ∙ ap not (heavy_is r.totals r.reloaded) ∙ ap (λ (x : ScriptData). not (is_heavy (with_failed x k))) view

-- what a script keeps beside what it holds, where its last tree fails
pub kept_failed : (s : Inside) (its : Vec Tree) (totals : Vec ℕ) (k n o u : ℕ) → its.items ≡ on_last (failed_tree k) s.trees.items → AreTotals totals.items (with_failed (script_data s) k)
    → n ≡ all_subs (with_failed (script_data s) k).trees → o ≡ all_ops (with_failed (script_data s) k).trees → u ≡ update_subs (with_failed (script_data s) k).trees → MayFail (script_data s) k → IsKept s
    → IsKept (record s { trees = its; totals = totals; subs = n; ops = o; update_subs = u; begun = false })
kept_failed s its totals k n o u is t n_is o_is u_is may h =
    let f = last_fails (script_data s) k may.begun may.adds may.earlier h.valid in
    record {
      valid = subst (λ (ts : List Tree). IsValid (record (script_data s) { trees = ts; begun = false })) (sym is) (valid_failed (script_data s) k may h.valid);
      item_names = h.item_names;
      tree_names = h.tree_names ∙ sym (ap tree_names is ∙ names-on_last (failed_tree k) s.trees.items (λ v. refl));
      len = t.len;
      totals = λ j lt. t.loads j lt ∙ sym (ap (λ (ts : List Tree). load j (record (script_data s) { trees = ts; begun = false })) is);
      puts_len = h.puts_len;
      puts = λ j lt. h.puts j lt ∙ sym (ap (trees_puts j) is ∙ failed_puts s.trees.items k f.tree f.last j f.adds);
      subs = n_is ∙ sym (ap all_subs is);
      ops = o_is ∙ sym (ap all_ops is);
      advances = h.advances;
      loses = h.loses;
      strict = h.strict ∙ sym (ap strict_trees is ∙ failed_strict s.trees.items k f.tree f.last);
      update_subs = u_is ∙ sym (ap update_subs is);
    }

pub strict_failed : (ts : List Tree) (k m : ℕ) → m < last_subs ts → strict_trees (on_last (failed_tree k) ts) ≡ strict_trees ts
strict_failed ts k m lt =
    let found = some_last ts (last_of ts) refl (omega arith) in
    failed_strict ts k found.0 found.1

-- a tree of a valid script as it was written
pub record WrittenTree (form : Form) (nodes : ℕ) (items : List ItemRow) (t : Tree) : Type 0 where
  pub few : length (written_subs t) ≤ 64
  pub subs : AreSubs nodes items t.kind 0 (written_subs t)
  pub name : IsTrue (is_name t.name)
  pub fails : (w : Written) → t.written ≡ Some w → (form ≡ forms.Two) × (w.failed.0 < 64)

written_tree : (form : Form) (nodes : ℕ) (items : List ItemRow) (front : List Tree) (t : Tree) (w : Option Written) → t.written ≡ w → IsTree nodes items t → MayHaveFailed form nodes items front t w → WrittenTree form nodes items t
written_tree form nodes items front t None is th h =
    let same : written_subs t ≡ t.subs = rw (is, written_subs) refl in
    record {
      few = subst (λ (x : List Sub). length x ≤ 64) (sym same) th.few;
      subs = subst (λ (x : List Sub). AreSubs nodes items t.kind 0 x) (sym same) th.subs;
      name = th.name;
      fails = λ w e. absurd (cc (e, is));
    }
written_tree form nodes items front t (Some w) is th h =
    let same : written_subs t ≡ w.subs = rw (is, written_subs) refl in
    record {
      few = subst (λ (x : List Sub). length x ≤ 64) (sym same) h.tree.few;
      subs = subst (λ (x : List Sub). AreSubs nodes items t.kind 0 x) (sym same) h.tree.subs;
      name = th.name;
      fails = λ v e. (h.second, let one : w ≡ v = some_written w v (sym is ∙ e) in subst (λ (x : Written). x.failed.0 < 64) one (omega (arith, h.failed, h.tree.few)));
    }
  where
    some_written : (a b : Written) → Some a ≡ Some b → a ≡ b
    some_written a b e = let P : Option Written → Type 0 = λ o. elim o [ None ↦ ⊥ | Some z ↦ a ≡ z ] in subst P e refl

pub written_trees : (form : Form) (nodes : ℕ) (items : List ItemRow) (front ts : List Tree) → AllByRecursion (IsTree nodes items) ts → MayAllHaveFailed form nodes items front ts → AllByRecursion (WrittenTree form nodes items) ts
written_trees form nodes items front [] all h = tt
written_trees form nodes items front (t ∷ ts) all h = (written_tree form nodes items front t t.written refl all.0 h.0, written_trees form nodes items (front ++ t ∷ []) ts all.1 h.1)
