-- If all operations commute, what an item is worth doesn't depend on the order.
use Rattle.std.proofs.Common.{◌≡◌, ℕ, zero, suc, ◌+◌, Bool, true, false, IsTrue, List, ◌∷◌, ◌++◌, refl, ap, sym, ◌∙◌, subst, []}
use Rattle.std.specs.Prelude.{if◌then◌else◌, ◌==◌, fold, Option, Some, None, slice_get}
use Rattle.std.specs.List.{AllByRecursion}
use Rattle.std.proofs.lemmas.List.Sums.{fold-append}
use Rattle.std.proofs.lemmas.List.Sorted.{IsPermutation-append_comm}
use Rattle.commute_ops.specs.declared.kinds.Kind.{Kind}
use Rattle.commute_ops.specs.declared.kinds.Op.{Op}
use Rattle.commute_ops.specs.declared.value.Value.{Value}
use Rattle.commute_ops.specs.Ops.{applied}
use Rattle.commute_ops.proofs.Orders.{values_are_free_of_order}
use Rattle.script_parts.specs.ScriptData.{ScriptData, is_strict, subs_at}
use Rattle.script_parts.specs.Valid.{AreSubs, IsOp, IsTree, IsValid, OpAt, deed_fits}
use Rattle.script_parts.specs.declared.parts.Deed.{Deed}
use Rattle.script_parts.specs.declared.parts.Deed.TheVariants.{Apply, Get, Set, Draw}
use Rattle.script_parts.specs.declared.parts.ItemRow.{ItemRow}
use Rattle.script_parts.specs.declared.parts.Sub.{Sub}
use Rattle.script_parts.specs.declared.parts.SubOp.{SubOp}
use Rattle.script_parts.specs.declared.parts.Tree.{Tree}
use Rattle.script_parts.specs.declared.parts.TreeKind.{TreeKind}
use Rattle.script_parts.specs.declared.parts.TreeKind.TheVariants.{Update, Read, Strict}
use Rattle.board_rules.specs.Histories.{is_strict_tree}
use Rattle.board_rules.specs.Worth.{after_deed, after_ops}

-- the commuting operation that a deed is; other deeds are none
abbrev pub op_of : Deed → List Op
op_of (Apply op) = op ∷ []
op_of Get = []
op_of (Set a) = []
op_of (Draw a) = []

-- the commuting operations on item x, in order
abbrev pub ops_on : ℕ → List SubOp → List Op
ops_on x [] = []
ops_on x (o ∷ os) = (if o.item.0 == x then op_of o.deed else []) ++ ops_on x os

-- a commuting operation, or a read
abbrev pub is_commuting : Deed → Bool
is_commuting (Apply op) = true
is_commuting Get = true
is_commuting (Set a) = false
is_commuting (Draw a) = false

abbrev pub OpsCommute : List SubOp → Type 0
OpsCommute [] = Unit {0}
OpsCommute (o ∷ os) = (is_commuting o.deed ≡ true) × OpsCommute os

abbrev pub SubsCommute : List Sub → Type 0
SubsCommute [] = Unit {0}
SubsCommute (k ∷ ks) = OpsCommute k.ops × SubsCommute ks

deed_is : (deed : Deed) (w : Value) → is_commuting deed ≡ true → after_deed deed w ≡ fold applied w (op_of deed)
deed_is (Apply op) w e = refl
deed_is Get w e = refl
deed_is (Set a) w e = absurd (cc e)
deed_is (Draw a) w e = absurd (cc e)

op_is : (b : Bool) (deed : Deed) (w : Value) → is_commuting deed ≡ true
    → (if b then after_deed deed w else w) ≡ fold applied w (if b then op_of deed else [])
op_is true deed w e = deed_is deed w e
op_is false deed w e = refl

pub after_ops_is : (x : ℕ) (os : List SubOp) (w : Value) → OpsCommute os → after_ops x os w ≡ fold applied w (ops_on x os)
after_ops_is x [] w all = refl
after_ops_is x (o ∷ os) w all =
    let b : Bool = o.item.0 == x in
    after_ops_is x os (if b then after_deed o.deed w else w) all.1
    ∙ ap (λ (z : Value). fold applied z (ops_on x os)) (op_is b o.deed w all.0)
    ∙ sym (fold-append applied w (if b then op_of o.deed else []) (ops_on x os))

-- what a valid script says of its deeds
fits_commutes : (kind : TreeKind) (k : Kind) (deed : Deed) → is_strict kind ≡ false → IsTrue (deed_fits kind k deed)
    → is_commuting deed ≡ true
fits_commutes Update k (Apply op) c f = refl
fits_commutes Update k Get c f = refl
fits_commutes Update k (Set a) c f = absurd (cc f)
fits_commutes Update k (Draw a) c f = absurd (cc f)
fits_commutes Read k (Apply op) c f = refl
fits_commutes Read k Get c f = refl
fits_commutes Read k (Set a) c f = absurd (cc f)
fits_commutes Read k (Draw a) c f = absurd (cc f)
fits_commutes Strict k deed c f = absurd (cc c)

op_commutes : (kind : TreeKind) (node : ℕ) (o : SubOp) (r : Option ItemRow) → is_strict kind ≡ false → OpAt kind node o r
    → is_commuting o.deed ≡ true
op_commutes kind node o None c h = absurd h
op_commutes kind node o (Some row) c h = fits_commutes kind row.kind o.deed c h.1

ops_commute : (items : List ItemRow) (kind : TreeKind) (node : ℕ) (os : List SubOp) → is_strict kind ≡ false
    → AllByRecursion (IsOp items kind node) os → OpsCommute os
ops_commute items kind node [] c all = tt
ops_commute items kind node (o ∷ os) c all =
    (op_commutes kind node o (slice_get items o.item.0) c all.0, ops_commute items kind node os c all.1)

subs_commute : (nodes : ℕ) (items : List ItemRow) (kind : TreeKind) (k : ℕ) (ks : List Sub) → is_strict kind ≡ false
    → AreSubs nodes items kind k ks → SubsCommute ks
subs_commute nodes items kind k [] c all = tt
subs_commute nodes items kind k (x ∷ ks) c all =
    (ops_commute items kind x.node.0 x.ops c all.0.ops, subs_commute nodes items kind (k + 1) ks c all.1)

-- a tree's subtransactions, and whether it is strict
abbrev its_subs : Option Tree → List Sub
its_subs None = []
its_subs (Some tree) = tree.subs

abbrev its_strict : Option Tree → Bool
its_strict None = false
its_strict (Some tree) = is_strict tree.kind

subs_here : (o : Option Tree) → its_subs o ≡ elim o as (λ (x : Option Tree). List Sub) [ Some tree ↦ tree.subs | None ↦ [] ]
subs_here None = refl
subs_here (Some tree) = refl

strict_here : (o : Option Tree) → its_strict o ≡ elim o as (λ (x : Option Tree). Bool) [ Some tree ↦ is_strict tree.kind | None ↦ false ]
strict_here None = refl
strict_here (Some tree) = refl

found_commute : (nodes : ℕ) (items : List ItemRow) (ts : List Tree) (t : ℕ) → AllByRecursion (IsTree nodes items) ts
    → its_strict (slice_get ts t) ≡ false → SubsCommute (its_subs (slice_get ts t))
found_commute nodes items [] t all c = tt
found_commute nodes items (tree ∷ ts) zero all c = subs_commute nodes items tree.kind 0 tree.subs c all.0.subs
found_commute nodes items (tree ∷ ts) (suc t) all c = found_commute nodes items ts t all.1 c

pub tree_commutes : (s : ScriptData) (t : ℕ) → IsValid s → is_strict_tree s t ≡ false → SubsCommute (subs_at s t)
tree_commutes s t valid c =
    let subs : its_subs (slice_get s.trees t) ≡ subs_at s t = subs_here (slice_get s.trees t) in
    let all = found_commute s.nodes s.items s.trees t valid.trees (strict_here (slice_get s.trees t) ∙ c) in
    moved (its_subs (slice_get s.trees t)) (subs_at s t) subs all where
      moved : (a b : List Sub) → a ≡ b → SubsCommute a → SubsCommute b
      moved a b e h = let P : List Sub → Type 0 = λ z. SubsCommute z in subst P e h

-- two lists of operations, the one after the other
pub exchanged : (a b : List Op) (w : Value) → fold applied (fold applied w a) b ≡ fold applied (fold applied w b) a
exchanged a b w =
    sym (fold-append applied w a b)
    ∙ values_are_free_of_order (b ++ a) (a ++ b) (IsPermutation-append_comm b a) w
    ∙ fold-append applied w b a
