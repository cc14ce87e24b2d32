-- If every transaction is complete, an item is written in a version by its node's acts exactly if the transactions of
-- that version write it.
use Rattle.std.proofs.Common.{◌≡◌, inl, inr, ℕ, zero, suc, ◌+◌, ◌<◌, ◌==◌, ◌&&◌, Bool, true, false, List, [], ◌∷◌, length, reverse, refl, sym, ap, subst, ◌∙◌, arith, Option, Some, None}
use Rattle.std.specs.Prelude.{slice_get}
use Rattle.std.proofs.lemmas.Bool.{and_from, and_parts, eqb-true, or_cases, or_left, or_right}
use Rattle.tv_base.proofs.Truths.{left_true, right_true, same_test}
use Rattle.tv_base.specs.declared.numbers.TreeNo.{TreeNo}
use Rattle.letter_types.specs.declared.acts.Act.{Act}
use Rattle.letter_types.specs.declared.acts.Act.TheVariants.{Did, Applied, Finished}
use Rattle.letter_types.specs.declared.entries.Entry.{Entry}
use Rattle.script_parts.proofs.SubsOf.{found_subs}
use Rattle.script_parts.specs.ScriptData.{ScriptData, is_strict, is_update, node_of, ops_of, sub_at, subs_at, updates}
use Rattle.script_parts.specs.Valid.{IsValid}
use Rattle.script_parts.specs.declared.parts.ItemRow.{ItemRow}
use Rattle.script_parts.specs.declared.parts.Sub.{Sub}
use Rattle.script_parts.specs.declared.parts.Tree.{Tree}
use Rattle.script_parts.specs.declared.parts.TreeKind.{TreeKind}
use Rattle.script_parts.specs.declared.parts.TreeKind.TheVariants as trees
use Rattle.board_rules.specs.Histories.{Place, applies, decides_as, does, is_strict_tree, is_whole_in, places_of, version_in, version_of, was_applied, was_decided_as, AreAllWhole}
use Rattle.board_rules.specs.Rules.{AreByRule}
use Rattle.board_rules.specs.Serial.{is_version}
use Rattle.board_rules.specs.Worth.{is_written, may_write, ops_change, subs_change, trees_write, writes}
use Rattle.board_rules.proofs.ActTests.{applies_as, applies_as_is, does_is}
use Rattle.board_rules.proofs.ClosedWorth.{applied_as_commit}
use Rattle.board_rules.proofs.ItemAt.{item_at, changed_in}
use Rattle.board_rules.proofs.Once.{same_tests}
use Rattle.board_rules.proofs.Positions.{ActAt, found_all, there_all}
use Rattle.board_rules.proofs.Precedence.{act_node, decision}
use Rattle.board_rules.proofs.Rules.{IsItemAt, deed}
use Rattle.board_rules.proofs.TreeSubs.{found_ops}
use Rattle.board_rules.proofs.Wholes.{whole_applied, whole_done}
use Rattle.world_model.specs.Decisions.{ops_at}
use Rattle.world_model.specs.Named.{is_strict_at}
use Rattle.world_model.specs.Runs.{IsStepRun}
use Rattle.world_model.proofs.Scripts.{get_below}
use Rattle.tree_laws.proofs.loads.NodeLoads.{StrictTree, strict_there}
use Rattle.run_laws.proofs.each_tree.EveryWhole.{strict_is}
use Rattle.run_laws.proofs.act_order.Rules.{follows_rules}
use Rattle.run_laws.proofs.items.Writes.{changes_at}
use Rattle.run_laws.specs.Held.{IsWrittenAtEnd}
use Rattle.run_laws.specs.Written.{was_written, act_writes, writes_in}
use Rattle.run_laws.proofs.items.HeldNewest.{tree_changes}

-- From an act to its tree.
-- trees of which one writes
trees_write_at : (h : List Entry) (x w i n : ℕ) (ts : List Tree) (t : ℕ) (tree : Tree) → slice_get ts n ≡ Some tree → t ≡ i + n
    → writes h x w t tree ≡ true → trees_write h x w i ts ≡ true
trees_write_at h x w i n [] t tree at is here = absurd (cc at)
trees_write_at h x w i zero (y ∷ ts) t tree at is here =
    let same : y ≡ tree = cc at in
    let number : i ≡ t = omega arith in
    or_left (writes h x w i y) (trees_write h x w (i + 1) ts)
    (ap (λ (z : Tree). writes h x w i z) same ∙ ap (λ (n : ℕ). writes h x w n tree) number ∙ here)
trees_write_at h x w i (suc n) (y ∷ ts) t tree at is here =
    or_right (writes h x w i y) (trees_write h x w (i + 1) ts) (trees_write_at h x w (i + 1) n ts t tree at (omega arith) here)

tree_writes : (s : ScriptData) (h : List Entry) (x w t : ℕ) (tree : Tree) → slice_get s.trees t ≡ Some tree
    → is_version w (version_of h t) ≡ true → may_write h t tree.kind ≡ true → subs_change x tree.subs ≡ true → is_written s h x w ≡ true
tree_writes s h x w t tree at version may change =
    trees_write_at h x w 0 t s.trees t tree at (omega arith)
    (and_from (is_version w (version_of h t) && may_write h t tree.kind) (subs_change x tree.subs)
    (and_from (is_version w (version_of h t)) (may_write h t tree.kind) version may) change)

-- a Did
update_may : (h : List Entry) (t : ℕ) (kind : TreeKind) → is_update kind ≡ true → may_write h t kind ≡ true
update_may h t trees.Update is = refl
update_may h t trees.Read is = absurd (cc is)
update_may h t trees.Strict is = absurd (cc is)

ops_found : (x : ℕ) (found : Option Sub) → ops_change x (elim found [ Some sub ↦ sub.ops | None ↦ [] ]) ≡ true
    → (sub : Sub) × (found ≡ Some sub) × (ops_change x sub.ops ≡ true)
ops_found x None is = absurd (cc is)
ops_found x (Some sub) is = (sub, refl, is)

tree_found : (found : Option Tree) → (elim found [ Some tree ↦ is_update tree.kind | None ↦ false ]) ≡ true
    → (tree : Tree) × (found ≡ Some tree) × (is_update tree.kind ≡ true)
tree_found None is = absurd (cc is)
tree_found (Some tree) is = (tree, refl, is)

did_to : (s : ScriptData) (h : List Entry) (x w t k : ℕ) → updates s t ≡ true → is_version w (version_of h t) ≡ true
    → ops_change x (ops_of s t k) ≡ true → is_written s h x w ≡ true
did_to s h x w t k up version change =
    let (tree, at, kind) = tree_found (slice_get s.trees t) up in
    let (sub, here, on) = ops_found x (sub_at s t k) change in
    let there : slice_get tree.subs k ≡ Some sub =
    sym (ap (λ (o : Option Tree). slice_get (elim o [ Some z ↦ z.subs | None ↦ [] ]) k) at) ∙ here in
    tree_writes s h x w t tree at version (update_may h t tree.kind kind) (changed_in x k tree.subs sub there on)

-- the Applied of a commit: its tree was decided to commit
was_decided : (s : ScriptData) (zs : List Place) (i q : ℕ) (t : TreeNo) → AreByRule s zs
    → slice_get zs i ≡ Some (record { node = q; act = Applied t true }) → was_decided_as t.0 true zs ≡ true
was_decided s zs i q t acts is =
    let passes : applies_as t.0 true (Applied t true) ≡ true = and_from (t.0 == t.0) true (same_test t.0) refl in
    let d = decision s zs i q t.0 true acts (record { act = Applied t true; is = is; passes = passes }) in
    there_all (λ (y : Place). decides_as t.0 true y.act) zs d.place (record { node = d.node; act = d.at.act }) d.at.is
    d.at.passes

applied_to : (s : ScriptData) (h : List Entry) (p x w i q : ℕ) (t : TreeNo) → AreByRule s (places_of h)
    → slice_get (places_of h) i ≡ Some (record { node = q; act = Applied t true }) → is_strict_at s t.0 ≡ true
    → is_version w (version_of h t.0) ≡ true → ops_change x (ops_at p (subs_at s t.0)) ≡ true → is_written s h x w ≡ true
applied_to s h p x w i q t acts is strict version change =
    let tree : StrictTree s t.0 = strict_there s t.0 strict in
    tree_writes s h x w t.0 tree.tree tree.at version
    (ap (may_write h t.0) tree.kind ∙ was_decided s (places_of h) i q t acts is)
    (sym (ap (subs_change x) tree.subs) ∙ tree_changes x p (subs_at s t.0) change)

act_to : (s : ScriptData) (h : List Entry) (p x w i q : ℕ) (a : Act) → AreByRule s (places_of h)
    → slice_get (places_of h) i ≡ Some (record { node = q; act = a }) → act_writes s (places_of h) p x w a ≡ true → is_written s h x w ≡ true
act_to s h p x w i q (Did t k values) acts at is =
    let rest : Bool = is_version w (version_of h t.0) && ops_change x (ops_of s t.0 k.0) in
    let one = and_parts (updates s t.0) rest is in
    let two = and_parts (is_version w (version_of h t.0)) (ops_change x (ops_of s t.0 k.0)) one.1 in
    did_to s h x w t.0 k.0 one.0 two.0 two.1
act_to s h p x w i q (Applied t true) acts at is =
    let on : Bool = ops_change x (ops_at p (subs_at s t.0)) in
    let one = and_parts (is_strict_at s t.0) (is_version w (version_of h t.0) && on) is in
    let two = and_parts (is_version w (version_of h t.0)) on one.1 in
    applied_to s h p x w i q t acts at one.0 two.0 two.1
act_to s h p x w i q (Applied t false) acts at is = absurd (cc is)
act_to s h p x w i q Finished acts at is = absurd (cc is)
act_to s h p x w i q _ acts at is = absurd (cc is)

some_to : (s : ScriptData) (h : List Entry) (p x w : ℕ) → AreByRule s (places_of h) → was_written s (places_of h) p x w ≡ true
    → is_written s h x w ≡ true
some_to s h p x w acts is =
    let f = found_all (writes_in s (places_of h) p x w) (places_of h) is in
    act_to s h p x w f.place f.item.node f.item.act acts f.is
    (right_true (f.item.node == p) (act_writes s (places_of h) p x w f.item.act) f.passes)

-- From a tree to an act.
tree_that_writes : (h : List Entry) (x w i : ℕ) (ts : List Tree) → trees_write h x w i ts ≡ true
    → (n : ℕ) × (tree : Tree) × (slice_get ts n ≡ Some tree) × (writes h x w (i + n) tree ≡ true)
tree_that_writes h x w i [] is = absurd (cc is)
tree_that_writes h x w i (y ∷ ts) is =
    elim (or_cases (writes h x w i y) (trees_write h x w (i + 1) ts) is) [
      | inl here ↦
          let number : i ≡ i + zero = omega arith in
          (zero, y, refl, sym (ap (λ (n : ℕ). writes h x w n y) number) ∙ here)
      | inr rest ↦
          let (n, tree, at, there) = tree_that_writes h x w (i + 1) ts rest in
          let number : i + 1 + n ≡ i + suc n = omega arith in
          (suc n, tree, at, sym (ap (λ (m : ℕ). writes h x w m tree) number) ∙ there)
    ]

sub_that_changes : (x : ℕ) (subs : List Sub) → subs_change x subs ≡ true
    → (k : ℕ) × (sub : Sub) × (slice_get subs k ≡ Some sub) × (ops_change x sub.ops ≡ true)
sub_that_changes x [] is = absurd (cc is)
sub_that_changes x (y ∷ subs) is =
    elim (or_cases (ops_change x y.ops) (subs_change x subs) is) [
      | inl here ↦ (zero, y, refl, here)
      | inr rest ↦ let (k, sub, at, there) = sub_that_changes x subs rest in (suc k, sub, at, there)
    ]

-- a whole update tree's subtransaction that changes the item did so, at its node
update_from : (s : ScriptData) (zs : List Place) (p x w t k : ℕ) → AreByRule s zs → updates s t ≡ true → is_whole_in s zs t ≡ true
    → k < length (subs_at s t) → node_of s t k ≡ p → is_version w (version_in t zs) ≡ true → ops_change x (ops_of s t k) ≡ true
    → was_written s zs p x w ≡ true
update_from s zs p x w t k acts up whole below node version change =
    let f = found_all (λ (y : Place). does t k y.act) zs (whole_done s zs t k up whole below) in
    let at : ActAt (does t k) zs f.place f.item.node = record { act = f.item.act; is = f.is; passes = f.passes } in
    let here : (f.item.node == p) ≡ true = ap (λ (n : ℕ). n == p) (sym (deed s zs f.place f.item.node t k acts at).node ∙ node) ∙ same_test p in
    let rest : Bool = is_version w (version_in t zs) && ops_change x (ops_of s t k) in
    let wrote : act_writes s zs p x w f.item.act ≡ true =
    ap (act_writes s zs p x w) (does_is t k f.item.act f.passes).1
    ∙ and_from (updates s t) rest up (and_from (is_version w (version_in t zs)) (ops_change x (ops_of s t k)) version change) in
    there_all (writes_in s zs p x w) zs f.place f.item f.is (and_from (f.item.node == p) (act_writes s zs p x w f.item.act) here wrote)

-- a whole strict tree's commit was applied at the item's node
strict_from : (s : ScriptData) (zs : List Place) (p x w t : ℕ) → AreByRule s zs → is_strict_tree s t ≡ true → was_decided_as t true zs ≡ true
    → was_applied t p zs ≡ true → is_version w (version_in t zs) ≡ true → ops_change x (ops_at p (subs_at s t)) ≡ true
    → was_written s zs p x w ≡ true
strict_from s zs p x w t acts strict committed applied version change =
    let f = found_all (λ (y : Place). (y.node == p) && applies t y.act) zs applied in
    let node : f.item.node ≡ p = eqb-true f.item.node p (left_true (f.item.node == p) (applies t f.item.act) f.passes) in
    let here = act_node (applies t) zs f.place f.item.node p
    (record { act = f.item.act; is = f.is; passes = right_true (f.item.node == p) (applies t f.item.act) f.passes }) node in
    let g = found_all (λ (y : Place). decides_as t true y.act) zs committed in
    let decided : ActAt (decides_as t true) zs g.place g.item.node =
    record { act = g.item.act; is = g.is; passes = g.passes } in
    let a = applied_as_commit s zs f.place g.place p g.item.node t acts here decided in
    let on : Bool = ops_change x (ops_at p (subs_at s t)) in
    let at : is_strict_at s t ≡ true = sym (strict_is s t (slice_get s.trees t) refl) ∙ strict in
    let wrote : act_writes s zs p x w a.act ≡ true =
    ap (act_writes s zs p x w) (applies_as_is t true a.act a.passes)
    ∙ and_from (is_strict_at s t) (is_version w (version_in t zs) && on) at (and_from (is_version w (version_in t zs)) on version change) in
    there_all (writes_in s zs p x w) zs f.place (record { node = p; act = a.act }) a.is
    (and_from (p == p) (act_writes s zs p x w a.act) (same_test p) wrote)

-- so of a tree that writes, where it is whole
tree_from : (s : ScriptData) (h : List Entry) (p x w t : ℕ) (tree : Tree) (kind : TreeKind) → AreByRule s (places_of h) → IsItemAt s p x
    → is_whole_in s (places_of h) t ≡ true → slice_get s.trees t ≡ Some tree → tree.kind ≡ kind → is_version w (version_of h t) ≡ true
    → may_write h t kind ≡ true → subs_change x tree.subs ≡ true → was_written s (places_of h) p x w ≡ true
tree_from s h p x w t tree trees.Update acts item whole at is version may on =
    let (k, sub, there, changed) = sub_that_changes x tree.subs on in
    let here : sub_at s t k ≡ Some sub = ap (λ (ks : List Sub). slice_get ks k) (found_subs s t tree at) ∙ there in
    let change : ops_change x (ops_of s t k) ≡ true = ap (ops_change x) (found_ops s t k sub here) ∙ changed in
    let up : updates s t ≡ true = rw (at, updates) (ap is_update is) in
    update_from s (places_of h) p x w t k acts up whole (get_below (subs_at s t) k sub here) (item.placed t k change) version change
tree_from s h p x w t tree trees.Read acts item whole at is version may on = absurd (cc may)
tree_from s h p x w t tree trees.Strict acts item whole at is version may on =
    let (k, sub, there, changed) = sub_that_changes x tree.subs on in
    let here : sub_at s t k ≡ Some sub = ap (λ (ks : List Sub). slice_get ks k) (found_subs s t tree at) ∙ there in
    let change : ops_change x (ops_of s t k) ≡ true = ap (ops_change x) (found_ops s t k sub here) ∙ changed in
    let strict : is_strict_tree s t ≡ true = rw (at, is_strict_tree) (ap is_strict is) in
    let applied = whole_applied s (places_of h) t k p strict whole (get_below (subs_at s t) k sub here) (item.placed t k change) in
    let all : subs_change x (subs_at s t) ≡ true = ap (subs_change x) (found_subs s t tree at) ∙ on in
    let at_p : ops_change x (ops_at p (subs_at s t)) ≡ true =
    changes_at x p (subs_at s t)
    (λ n y one touch.
    let own : sub_at s t n ≡ Some y = one in
    let ops : ops_of s t n ≡ y.ops = rw (own, ops_of) refl in
    let node : node_of s t n ≡ y.node.0 = rw (own, node_of) refl in
    sym node ∙ item.placed t n (ap (ops_change x) ops ∙ touch)) all in
    strict_from s (places_of h) p x w t acts strict may applied version at_p

some_from : (s : ScriptData) (h : List Entry) (p x w : ℕ) → AreByRule s (places_of h) → IsItemAt s p x → AreAllWhole s (places_of h)
    → is_written s h x w ≡ true → was_written s (places_of h) p x w ≡ true
some_from s h p x w acts item whole is =
    let (t, tree, at, there) = tree_that_writes h x w 0 s.trees is in
    let number : 0 + t ≡ t = omega arith in
    let here : writes h x w t tree ≡ true = subst (λ (n : ℕ). writes h x w n tree ≡ true) number there in
    let one = and_parts (is_version w (version_of h t) && may_write h t tree.kind) (subs_change x tree.subs) here in
    let two = and_parts (is_version w (version_of h t)) (may_write h t tree.kind) one.0 in
    tree_from s h p x w t tree tree.kind acts item (whole t (get_below s.trees t tree at)) at refl two.0 two.1 one.1

-- both
pub written_at_end : (s : ScriptData) (past : List Entry) (p x w : ℕ) (r : ItemRow) → IsValid s → IsStepRun s past
    → slice_get s.items x ≡ Some r → r.node.0 ≡ p → AreAllWhole s (places_of (reverse past))
    → was_written s (places_of (reverse past)) p x w ≡ is_written s (reverse past) x w
written_at_end s past p x w r valid run at node whole =
    let h : List Entry = reverse past in
    let acts = (follows_rules s past valid run).acts in
    same_tests (was_written s (places_of h) p x w) (is_written s h x w)
    (λ is. some_to s h p x w acts is) (λ is. some_from s h p x w acts (item_at s p x r valid at node) whole is)

pub ends_written : (s : ScriptData) (past : List Entry) (p x : ℕ) → IsValid s → IsStepRun s past → AreAllWhole s (places_of (reverse past))
    → IsWrittenAtEnd s past p x
ends_written s past p x valid run whole = λ w r at node. written_at_end s past p x w r valid run at node whole
