-- A strict tree has at most one operation on an item at each node.
use Rattle.std.proofs.Common.{◌≡◌, ℕ, Bool, true, false, List, [], ◌∷◌, ◌++◌, map, refl, Option, Some, None}
use Rattle.std.specs.Prelude.{if◌then◌else◌, ◌==◌, nat_eq, slice_get}
use Rattle.std.specs.List.{AllByRecursion}
use Rattle.std.proofs.lemmas.Map.Keys.{IsDistinct-cons, IsDistinct-head, IsDistinct-tail}
use Rattle.tx_trees.specs.Counts.{ops_in}
use Rattle.tx_trees.specs.ScriptData.{ScriptData, is_strict, subs_at}
use Rattle.tx_trees.specs.Valid.{IsTree, IsValid}
use Rattle.tx_trees.specs.declared.parts.Sub.{Sub}
use Rattle.tx_trees.specs.declared.parts.SubOp.{SubOp}
use Rattle.tx_trees.specs.declared.parts.Tree.{Tree}
use Rattle.tx_trees.specs.declared.parts.TreeKind.{TreeKind}
use Rattle.tx_trees.proofs.SubsOf.{all_at}
use Rattle.world_model.specs.Named.{is_strict_at}
use Rattle.nc_commit.specs.Decisions.{ops_at}
use Rattle.nc_commit.specs.inside.Writes.{AreOnce}
use Rattle.script_parts.proofs.StrictKind.{strict_kind}

abbrev numbers : List SubOp → List ℕ
numbers os = map (λ o. o.item.0) os

-- what holds of the operations after some others
all-behind : (P : ℕ → Type 0) (xs ys : List SubOp) → AllByRecursion P (numbers (xs ++ ys))
    → AllByRecursion P (numbers ys)
all-behind P [] ys all = all
all-behind P (x ∷ xs) ys all = all-behind P xs ys all.1

all-changed : (P : ℕ → Type 0) (xs ys zs : List SubOp)
    → (AllByRecursion P (numbers ys) → AllByRecursion P (numbers zs)) → AllByRecursion P (numbers (xs ++ ys))
    → AllByRecursion P (numbers (xs ++ zs))
all-changed P [] ys zs goes all = goes all
all-changed P (x ∷ xs) ys zs goes all = (all.0, all-changed P xs ys zs goes all.1)

all-at-by : (P : ℕ → Type 0) (p : ℕ) (k : Sub) (ks : List Sub) (b : Bool)
    → (AllByRecursion P (numbers (ops_in ks)) → AllByRecursion P (numbers (ops_at p ks)))
    → AllByRecursion P (numbers (k.ops ++ ops_in ks))
    → AllByRecursion P (numbers (if b then k.ops ++ ops_at p ks else ops_at p ks))
all-at-by P p k ks true goes all = all-changed P k.ops (ops_in ks) (ops_at p ks) goes all
all-at-by P p k ks false goes all = goes (all-behind P k.ops (ops_in ks) all)

all-at : (P : ℕ → Type 0) (p : ℕ) (ks : List Sub) → AllByRecursion P (numbers (ops_in ks))
    → AllByRecursion P (numbers (ops_at p ks))
all-at P p [] all = all
all-at P p (k ∷ ks) all = all-at-by P p k ks (k.node.0 == p) (all-at P p ks) all

once-behind : (xs ys : List SubOp) → AreOnce (xs ++ ys) → AreOnce ys
once-behind [] ys once = once
once-behind (x ∷ xs) ys once = once-behind xs ys (IsDistinct-tail nat_eq x.item.0 (numbers (xs ++ ys)) once)

once-changed : (xs ys zs : List SubOp)
    → ((P : ℕ → Type 0) → AllByRecursion P (numbers ys) → AllByRecursion P (numbers zs)) → AreOnce zs
    → AreOnce (xs ++ ys) → AreOnce (xs ++ zs)
once-changed [] ys zs goes once' once = once'
once-changed (x ∷ xs) ys zs goes once' once =
    let P : ℕ → Type 0 = λ y. nat_eq x.item.0 y ≡ false in
    IsDistinct-cons nat_eq x.item.0 (numbers (xs ++ zs))
    (all-changed P xs ys zs (goes P) (IsDistinct-head nat_eq x.item.0 (numbers (xs ++ ys)) once))
    (once-changed xs ys zs goes once' (IsDistinct-tail nat_eq x.item.0 (numbers (xs ++ ys)) once))

once-at-by : (p : ℕ) (k : Sub) (ks : List Sub) (b : Bool) → AreOnce (ops_at p ks) → AreOnce (k.ops ++ ops_in ks)
    → AreOnce (if b then k.ops ++ ops_at p ks else ops_at p ks)
once-at-by p k ks true rest once = once-changed k.ops (ops_in ks) (ops_at p ks) (λ P. all-at P p ks) rest once
once-at-by p k ks false rest once = rest

-- if each item is touched once, so it is at a node
pub once-at : (p : ℕ) (ks : List Sub) → AreOnce (ops_in ks) → AreOnce (ops_at p ks)
once-at p [] once = once
once-at p (k ∷ ks) once =
    once-at-by p k ks (k.node.0 == p) (once-at p ks (once-behind k.ops (ops_in ks) once)) once

abbrev kind_by : Option Tree → Option TreeKind
kind_by o = elim o [ Some tree ↦ Some tree.kind | None ↦ None ]

abbrev strict_by : Option TreeKind → Bool
strict_by o = elim o [ Some kind ↦ is_strict kind | None ↦ false ]

abbrev subs_by : Option Tree → List Sub
subs_by o = elim o [ Some tree ↦ tree.subs | None ↦ [] ]

subs-once : (s : ScriptData) (t : ℕ) (o : Option Tree) → slice_get s.trees t ≡ o → IsValid s
    → strict_by (kind_by o) ≡ true → AreOnce (ops_in (subs_by o))
subs-once s t None at valid strict = let no_such : false ≡ true = strict in cc
subs-once s t (Some tree) at valid strict =
    (all_at (IsTree s.nodes s.items) s.trees t tree valid.trees at).once (strict_kind tree.kind strict)

-- so a strict tree of a valid script has one operation on an item at a node
pub strict_once : (s : ScriptData) (t p : ℕ) → IsValid s → is_strict_at s t ≡ true → AreOnce (ops_at p (subs_at s t))
strict_once s t p valid strict =
    once-at p (subs_at s t) (subs-once s t (slice_get s.trees t) refl valid strict)
