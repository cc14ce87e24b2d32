-- What the acts of an item's node make of it, and what the item is worth, are each one fold over the subtransactions
-- that change it, in order of time and in serial order.
use Rattle.std.proofs.Common.{◌≡◌, ℕ, suc, ◌+◌, ◌==◌, ◌&&◌, Bool, true, false, List, [], ◌∷◌, ◌++◌, refl, sym, ap, ◌∙◌, arith, Option, Some, None}
use Rattle.std.specs.Prelude.{if◌then◌else◌, cond, filter, fold, slice_get}
use Rattle.std.proofs.lemmas.Bool.{false_from_ne_true, or_parts}
use Rattle.std.proofs.lemmas.List.Sums.{fold-append}
use Rattle.tv_base.proofs.Truths.{same_test}
use Rattle.commute_ops.specs.declared.value.Value.{Value}
use Rattle.letter_types.specs.declared.acts.Act.{Act}
use Rattle.letter_types.specs.declared.acts.Act.TheVariants.{Did, Applied, Finished}
use Rattle.script_parts.specs.ScriptData.{ScriptData, node_of, ops_of, sub_at, subs_at, updates}
use Rattle.script_parts.specs.declared.parts.Deed.{Deed}
use Rattle.script_parts.specs.declared.parts.Deed.TheVariants.{Apply, Get, Set, Draw}
use Rattle.script_parts.specs.declared.parts.Sub.{Sub}
use Rattle.script_parts.specs.declared.parts.SubOp.{SubOp}
use Rattle.board_rules.specs.Histories.{Place, is_strict_tree, version_in}
use Rattle.board_rules.specs.Worth.{after_deed, after_ops, after_subs, after_tree, changes, first_value, ops_change}
use Rattle.board_rules.proofs.Once.{clash, fold_kept}
use Rattle.board_rules.proofs.Rules.{IsItemAt}
use Rattle.board_rules.proofs.SerialOrder.{is_up_to}
use Rattle.board_rules.proofs.TreeSubs.{after_sub, found_ops, numbered, touches, tree_folded, trees_folded, trees_in}

-- those of these subtransactions that are at node p
abbrev pub subs_there : ℕ → List Sub → List Sub
subs_there p ks = filter (λ (k : Sub). k.node.0 == p) ks

-- the value of item x after an act of its node p: a Did of an update tree of version at most v applies its operations,
-- the Applied of a commit of a strict tree of version at most v those of the tree's subtransactions there
abbrev pub made_by : ScriptData → List Place → ℕ → ℕ → ℕ → Value → Act → Value
made_by s zs p x v w (Did t k values) = if updates s t.0 && is_up_to v (version_in t.0 zs) then after_ops x (ops_of s t.0 k.0) w else w
made_by s zs p x v w (Applied t commit) =
    if (is_strict_tree s t.0 && is_up_to v (version_in t.0 zs)) && commit then after_subs x (subs_there p (subs_at s t.0)) w else w
made_by s zs p x v w Finished = w
made_by s zs p x v w _ = w

abbrev pub made_at : ScriptData → List Place → ℕ → ℕ → ℕ → Value → Place → Value
made_at s zs p x v w y = if y.node == p then made_by s zs p x v w y.act else w

-- the initial value of item x, folded over the acts of its node p
abbrev pub made_in : ScriptData → List Place → ℕ → ℕ → ℕ → Value
made_in s zs p x v = fold (made_at s zs p x v) (first_value (slice_get s.items x)) zs

-- the subtransactions that take effect by an act, at node p, and by these acts in order, of trees of version at most v
abbrev pub effect_of : ScriptData → List Place → ℕ → Act → List (ℕ × ℕ)
effect_of s zs v (Did t k values) = if updates s t.0 && is_up_to v (version_in t.0 zs) then (t.0, k.0) ∷ [] else []
effect_of s zs v (Applied t commit) =
    if (is_strict_tree s t.0 && is_up_to v (version_in t.0 zs)) && commit then numbered t.0 0 (subs_at s t.0) else []
effect_of s zs v Finished = []
effect_of s zs v _ = []

abbrev pub effect_at : ScriptData → List Place → ℕ → ℕ → Place → List (ℕ × ℕ)
effect_at s zs p v y = if y.node == p then effect_of s zs v y.act else []

abbrev pub effects_in : ScriptData → List Place → ℕ → ℕ → List Place → List (ℕ × ℕ)
effects_in s zs p v [] = []
effects_in s zs p v (y ∷ ys) = effect_at s zs p v y ++ effects_in s zs p v ys

-- those that change item x, in order of time, and those of these trees
abbrev pub by_time : ScriptData → List Place → ℕ → ℕ → ℕ → List (ℕ × ℕ)
by_time s zs p x v = filter (touches s x) (effects_in s zs p v zs)

abbrev pub by_trees : ScriptData → ℕ → List ℕ → List (ℕ × ℕ)
by_trees s x ts = filter (touches s x) (trees_in s ts)

-- Operations that don't change the item leave its value.
still_deed : (d : Deed) (w : Value) → changes d ≡ false → after_deed d w ≡ w
still_deed (Apply op) w is = absurd (cc is)
still_deed Get w is = refl
still_deed (Set n) w is = absurd (cc is)
still_deed (Draw n) w is = absurd (cc is)

still_by : (o : SubOp) (w : Value) (b : Bool) → (b && changes o.deed) ≡ false → (if b then after_deed o.deed w else w) ≡ w
still_by o w true is = still_deed o.deed w is
still_by o w false is = refl

pub still_ops : (x : ℕ) (os : List SubOp) (w : Value) → ops_change x os ≡ false → after_ops x os w ≡ w
still_ops x [] w is = refl
still_ops x (o ∷ os) w is =
    let parts = or_parts ((o.item.0 == x) && changes o.deed) (ops_change x os) is in
    ap (after_ops x os) (still_by o w (o.item.0 == x) parts.0) ∙ still_ops x os w parts.1

-- so do subtransactions elsewhere
found_node : (s : ScriptData) (t i : ℕ) (k : Sub) → sub_at s t i ≡ Some k → node_of s t i ≡ k.node.0
found_node s t i k is = ap (λ (f : Option Sub). elim f [ Some sub ↦ sub.node.0 | None ↦ s.nodes ]) is

here_by : (p x : ℕ) (k : Sub) (ks : List Sub) (w : Value) (b : Bool) → (b ≡ false → ops_change x k.ops ≡ false)
    → ((u : Value) → after_subs x (subs_there p ks) u ≡ after_subs x ks u)
    → after_subs x (cond b (k ∷ subs_there p ks) (subs_there p ks)) w ≡ after_subs x (k ∷ ks) w
here_by p x k ks w true other rest = rest (after_ops x k.ops w)
here_by p x k ks w false other rest = rest w ∙ sym (ap (after_subs x ks) (still_ops x k.ops w (other refl)))

here_folded : (s : ScriptData) (p x t i : ℕ) (ks : List Sub) (w : Value) → IsItemAt s p x
    → ((n : ℕ) → sub_at s t (i + n) ≡ slice_get ks n) → after_subs x (subs_there p ks) w ≡ after_subs x ks w
here_folded s p x t i [] w item same = refl
here_folded s p x t i (k ∷ ks) w item same =
    let first : i + 0 ≡ i = omega arith in
    let here : sub_at s t i ≡ Some k = ap (sub_at s t) (sym first) ∙ same 0 in
    here_by p x k ks w (k.node.0 == p)
    (λ apart. false_from_ne_true (ops_change x k.ops) (λ change.
    let there : node_of s t i ≡ p = item.placed t i (ap (ops_change x) (found_ops s t i k here) ∙ change) in
    let node : k.node.0 ≡ p = sym (found_node s t i k here) ∙ there in
    clash (k.node.0 == p) (ap (λ (q : ℕ). k.node.0 == q) (sym node) ∙ same_test k.node.0) apart))
    (λ u. here_folded s p x t (i + 1) ks u item (λ n. let next : i + 1 + n ≡ i + suc n = omega arith in ap (sub_at s t) next ∙ same (suc n)))

-- What acts make.
pub did_folded : (s : ScriptData) (x t k : ℕ) (w : Value) (b : Bool)
    → (if b then after_ops x (ops_of s t k) w else w) ≡ fold (after_sub s x) w (if b then (t, k) ∷ [] else [])
did_folded s x t k w true = refl
did_folded s x t k w false = refl

applied_folded : (s : ScriptData) (p x t : ℕ) (w : Value) (b : Bool) → IsItemAt s p x
    → (if b then after_subs x (subs_there p (subs_at s t)) w else w) ≡ fold (after_sub s x) w (if b then numbered t 0 (subs_at s t) else [])
applied_folded s p x t w false item = refl
applied_folded s p x t w true item =
    here_folded s p x t 0 (subs_at s t) w item (λ n. let same : 0 + n ≡ n = omega arith in ap (sub_at s t) same)
    ∙ tree_folded s x t w

act_folded : (s : ScriptData) (zs : List Place) (p x v : ℕ) (w : Value) (a : Act) → IsItemAt s p x
    → made_by s zs p x v w a ≡ fold (after_sub s x) w (effect_of s zs v a)
act_folded s zs p x v w (Did t k values) item = did_folded s x t.0 k.0 w (updates s t.0 && is_up_to v (version_in t.0 zs))
act_folded s zs p x v w (Applied t commit) item =
    applied_folded s p x t.0 w ((is_strict_tree s t.0 && is_up_to v (version_in t.0 zs)) && commit) item
act_folded s zs p x v w Finished item = refl
act_folded s zs p x v w _ item = refl

pub place_folded : (s : ScriptData) (zs : List Place) (p x v : ℕ) (w : Value) (y : Place) (b : Bool) → IsItemAt s p x
    → (if b then made_by s zs p x v w y.act else w) ≡ fold (after_sub s x) w (if b then effect_of s zs v y.act else [])
place_folded s zs p x v w y true item = act_folded s zs p x v w y.act item
place_folded s zs p x v w y false item = refl

made_folded : (s : ScriptData) (zs : List Place) (p x v : ℕ) (ys : List Place) (w : Value) → IsItemAt s p x
    → fold (made_at s zs p x v) w ys ≡ fold (after_sub s x) w (effects_in s zs p v ys)
made_folded s zs p x v [] w item = refl
made_folded s zs p x v (y ∷ ys) w item =
    made_folded s zs p x v ys (made_at s zs p x v w y) item
    ∙ ap (λ (u : Value). fold (after_sub s x) u (effects_in s zs p v ys)) (place_folded s zs p x v w y (y.node == p) item)
    ∙ sym (fold-append (after_sub s x) w (effect_at s zs p v y) (effects_in s zs p v ys))

-- what a node's acts make of its item is the fold over those that change it, in order of time
pub made_is : (s : ScriptData) (zs : List Place) (p x v : ℕ) → IsItemAt s p x
    → made_in s zs p x v ≡ fold (after_sub s x) (first_value (slice_get s.items x)) (by_time s zs p x v)
made_is s zs p x v item =
    made_folded s zs p x v zs (first_value (slice_get s.items x)) item
    ∙ fold_kept (touches s x) (after_sub s x) (λ q none u. still_ops x (ops_of s q.0 q.1) u none)
    (effects_in s zs p v zs) (first_value (slice_get s.items x))

-- what trees make of an item is the fold over their subtransactions that change it
pub trees_are : (s : ScriptData) (x : ℕ) (ts : List ℕ) (w : Value) → fold (after_tree s x) w ts ≡ fold (after_sub s x) w (by_trees s x ts)
trees_are s x ts w =
    trees_folded s x ts w
    ∙ fold_kept (touches s x) (after_sub s x) (λ q none u. still_ops x (ops_of s q.0 q.1) u none) (trees_in s ts) w
