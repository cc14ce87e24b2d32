-- The last of a list, and a change of it, by its place.
use Rattle.std.proofs.Common.{◌≡◌, ◌-◌, ◌<◌, ℕ, suc, zero, List, [], ◌∷◌, ◌++◌, length, get_or, refl, sym, ap, ◌∙◌, arith}
use Rattle.std.specs.Prelude.{None, Some, Result, Ok, Err, OnErr, slice_get}
use Rattle.std.proofs.Math.ListN.{set}
use Rattle.std.proofs.lemmas.List.{set-get_or}
use Rattle.script_parts.specs.declared.parts.Sub.{Sub}
use Rattle.script_parts.specs.declared.parts.SubOp.{SubOp}
use Rattle.script_parts.specs.declared.parts.Tree.{Tree}
use Rattle.script_parts.specs.Adding.{failed_tree, last_count, last_kind, last_node, last_of, last_sub, last_subs, last_tree_subs, on_last, on_last_sub, push_op, push_sub}
use Rattle.script_parts.specs.Undone.{undone}
use Rattle.tv_base.specs.declared.numbers.SubNo.{SubNo}

pub on_last_is : {A : Type 0} (f : A → A) (xs : List A) (k : ℕ) (d : A) → suc k ≡ length xs → set xs k (f (get_or xs k d)) ≡ on_last f xs
on_last_is f [] k d e = absurd (omega arith)
on_last_is f (x ∷ []) zero d e = refl
on_last_is f (x ∷ []) (suc k) d e = absurd (omega arith)
on_last_is f (x ∷ y ∷ ys) zero d e = absurd (omega arith)
on_last_is f (x ∷ y ∷ ys) (suc k) d e = ap (λ (r : List _). x ∷ r) (on_last_is f (y ∷ ys) k d (omega arith))

last_is : {A : Type 0} (xs : List A) (k : ℕ) (d : A) → suc k ≡ length xs → last_of xs ≡ Some (get_or xs k d)
last_is [] k d e = absurd (omega arith)
last_is (x ∷ []) zero d e = refl
last_is (x ∷ []) (suc k) d e = absurd (omega arith)
last_is (x ∷ y ∷ ys) zero d e = absurd (omega arith)
last_is (x ∷ y ∷ ys) (suc k) d e = last_is (y ∷ ys) k d (omega arith)

pub last_at : {A : Type 0} (xs : List A) (k : ℕ) (x : A) → suc k ≡ length xs → x ≡ get_or xs k x → last_of xs ≡ Some x
last_at xs k x e is = last_is xs k x e ∙ ap Some (sym is)

got_at : {A : Type 0} (xs : List A) (k : ℕ) → suc k ≡ length xs → slice_get xs k ≡ last_of xs
got_at [] k e = absurd (omega arith)
got_at (x ∷ []) zero e = refl
got_at (x ∷ []) (suc k) e = absurd (omega arith)
got_at (x ∷ y ∷ ys) zero e = absurd (omega arith)
got_at (x ∷ y ∷ ys) (suc k) e = got_at (y ∷ ys) k (omega arith)

pub last_got : {A : Type 0} (xs : List A) → slice_get xs (length xs - 1) ≡ last_of xs
last_got [] = refl
last_got (x ∷ xs) = got_at (x ∷ xs) (length (x ∷ xs) - 1) (omega arith)

-- the last that is lent
pub lent_last : {A : Type 0} (xs : List A) (x : A) → 0 < length xs → Some x ≡ slice_get xs (length xs - 1) → x ≡ get_or xs (length xs - 1) x
lent_last xs x some e =
    let at : suc (length xs - 1) ≡ length xs = omega (arith, some) in
    let same : Some x ≡ Some (get_or xs (length xs - 1) x) = e ∙ last_got xs ∙ last_is xs (length xs - 1) x at in
    cc same

pub length-on_last : {A : Type 0} (f : A → A) (xs : List A) → length (on_last f xs) ≡ length xs
length-on_last f [] = refl
length-on_last f (x ∷ []) = refl
length-on_last f (x ∷ y ∷ ys) = ap suc (length-on_last f (y ∷ ys))

pub last_subs_is : (ts : List Tree) (t : Tree) → last_of ts ≡ Some t → last_subs ts ≡ length t.subs
last_subs_is ts t e = rw (e, last_subs) refl

pub last_kind_is : (ts : List Tree) (t : Tree) → last_of ts ≡ Some t → last_kind ts ≡ t.kind
last_kind_is ts t e = rw (e, last_kind) refl

pub last_sub_is : (ts : List Tree) (t : Tree) (s : Sub) → last_of ts ≡ Some t → last_of t.subs ≡ Some s → last_sub ts ≡ Some s
last_sub_is ts t s e f = rw (e, last_sub) f

pub no_last_count : (ts : List Tree) (t : Tree) → last_of ts ≡ Some t → last_of t.subs ≡ None → last_count ts ≡ 0
no_last_count ts t e f =
    let none : last_sub ts ≡ None = rw (e, last_sub) f in
    rw (none, last_count) refl

pub last_node_is : (ts : List Tree) (s : Sub) → last_sub ts ≡ Some s → last_node ts ≡ s.node.0
last_node_is ts s e = rw (e, last_node) refl

pub last_count_is : (ts : List Tree) (s : Sub) → last_sub ts ≡ Some s → last_count ts ≡ length s.ops
last_count_is ts s e = rw (e, last_count) refl

pub push_last_sub : (ts : List Tree) (k : ℕ) (t : Tree) (s : Sub) (subs : List Sub) → suc k ≡ length ts → t ≡ get_or ts k t → subs ≡ t.subs ++ s ∷ []
    → set ts k (let u : Tree = record t { subs = subs } in u) ≡ on_last (push_sub s) ts
push_last_sub ts k t s subs e is pushed = rw pushed (ap (λ (u : Tree). set ts k (push_sub s u)) is ∙ on_last_is (push_sub s) ts k t e)

pub push_last_op : (ts : List Tree) (k : ℕ) (t : Tree) (o : SubOp) (subs : List Sub) → suc k ≡ length ts → t ≡ get_or ts k t → subs ≡ on_last (push_op o) t.subs
    → set ts k (let u : Tree = record t { subs = subs } in u) ≡ on_last (on_last_sub (push_op o)) ts
push_last_op ts k t o subs e is pushed = rw pushed (ap (λ (u : Tree). set ts k (on_last_sub (push_op o) u)) is ∙ on_last_is (on_last_sub (push_op o)) ts k t e)

pub push_op_last : (ss : List Sub) (k : ℕ) (s : Sub) (o : SubOp) (ops : List SubOp) → suc k ≡ length ss → s ≡ get_or ss k s → ops ≡ s.ops ++ o ∷ []
    → set ss k (let u : Sub = record s { ops = ops } in u) ≡ on_last (push_op o) ss
push_op_last ss k s o ops e is pushed = rw pushed (ap (λ (u : Sub). set ss k (push_op o u)) is ∙ on_last_is (push_op o) ss k s e)

-- the last subtransaction, put back as it was
pub put_back_last : (ss : List Sub) (k : ℕ) (s : Sub) (ops : List SubOp) → s ≡ get_or ss k s → ops ≡ s.ops → set ss k (let u : Sub = record s { ops = ops } in u) ≡ ss
put_back_last ss k s ops is same = rw same (ap (λ (u : Sub). set ss k u) is ∙ set-get_or ss k s)

pub on_err : {T E : Type 0} (P : Type 0) (r : Result T E) → P → OnErr r P
on_err P (Ok t) p = tt
on_err P (Err e) p = p

pub last_tree_subs_is : (ts : List Tree) (t : Tree) → last_of ts ≡ Some t → last_tree_subs ts ≡ t.subs
last_tree_subs_is ts t e = rw (e, last_tree_subs) refl

-- the subtransactions at the last place are those of the last tree
pub subs_at_last : (ts : List Tree) (k : ℕ) (t : Tree) (subs : List Sub) → suc k ≡ length ts → t ≡ get_or ts k t → subs ≡ t.subs → subs ≡ last_tree_subs ts
subs_at_last ts k t subs e at is = is ∙ sym (last_tree_subs_is ts t (last_at ts k t e at))

-- the last of some trees, in its place
pub fail_last_is : (ts : List Tree) (k : ℕ) (t : Tree) (failed : SubNo) (was now : List Sub) → suc k ≡ length ts → t ≡ get_or ts k t → was ≡ t.subs → now ≡ undone (last_tree_subs ts) failed.0
    → set ts k (let u : Tree = record { name = t.name; kind = t.kind; subs = now; written = Some (record { failed = failed; subs = was }) } in u) ≡ on_last (failed_tree failed.0) ts
fail_last_is ts k t failed was now e at was_is now_is =
    let last = last_at ts k t e at in
    let undone_now : now ≡ undone t.subs failed.0 = now_is ∙ ap (λ (x : List Sub). undone x failed.0) (last_tree_subs_is ts t last) in
    ap (λ (x : List Sub). set ts k (let u : Tree = record { name = t.name; kind = t.kind; subs = x; written = Some (record { failed = failed; subs = was }) } in u)) undone_now
    ∙ ap (λ (x : List Sub). set ts k (let u : Tree = record { name = t.name; kind = t.kind; subs = undone t.subs failed.0; written = Some (record { failed = failed; subs = x }) } in u)) was_is
    ∙ ap (λ (u : Tree). set ts k (failed_tree failed.0 u)) at
    ∙ on_last_is (failed_tree failed.0) ts k t e
