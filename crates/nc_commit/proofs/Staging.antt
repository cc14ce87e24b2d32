-- A tree's operations at a node, looked at and staged one after the other.
use Rattle.std.proofs.Common.{◌≡◌, ℕ, ◌+◌, ◌<◌, Bool, true, false, ◌&&◌, List, [], ◌∷◌, ◌++◌, length, map, drop, get_or, refl, ap, subst, sym, ◌∙◌, add-one, drop-cons, Option, Some, None}
use Rattle.std.specs.Prelude.{if◌then◌else◌, ◌==◌, nat_eq}
use Rattle.std.specs.List.{AllByRecursion}
use Rattle.std.proofs.lemmas.Bool.{and_parts, eq-eqb, eqb-false, ne_eqb}
use Rattle.std.proofs.lemmas.Map.Keys.{IsDistinct-head, IsDistinct-tail}
use Rattle.tv_base.specs.declared.numbers.ItemNo.{ItemNo}
use Rattle.tv_base.specs.declared.numbers.Version.{Version}
use Rattle.commute_ops.specs.declared.value.Value.{Value}
use Rattle.item_versions.specs.Item.{Held}
use Rattle.item_versions.specs.Table.{Table, item_in, valued}
use Rattle.item_versions.proofs.Tables.{item_in-replaced_other}
use Rattle.tx_trees.specs.declared.parts.Sub.{Sub}
use Rattle.tx_trees.specs.declared.parts.SubOp.{SubOp}
use Rattle.world_model.specs.Reads.{seen_in}
use Rattle.script_parts.specs.Deeds.{overwrites}
use Rattle.nc_commit.specs.Decisions.{applied_in, can_apply, can_apply_op, ops_at, overwritten, overwritten_in}
use Rattle.nc_commit.specs.inside.Writes.{AreUntouched, IsStaging}

and_grouped : (a b c : Bool) → (a && (b && c)) ≡ ((a && b) && c)
and_grouped true b c = refl
and_grouped false b c = refl

pub can_apply-append : (v : Version) (xs ys : List SubOp) (items : Table)
    → can_apply v (xs ++ ys) items ≡ (can_apply v xs items && can_apply v ys items)
can_apply-append v [] ys items = refl
can_apply-append v (o ∷ xs) ys items =
    ap (λ (b : Bool). can_apply_op v o items && b) (can_apply-append v xs ys items)
    ∙ and_grouped (can_apply_op v o items) (can_apply v xs items) (can_apply v ys items)

-- the operations of the subtransactions that are left, by the first of them
abbrev by_first : ℕ → Sub → List SubOp → List SubOp
by_first p k rest = if k.node.0 == p then k.ops ++ rest else rest

left-are : (p : ℕ) (ks : List Sub) (i : ℕ) (k : Sub) → i < length ks → k ≡ get_or ks i k
    → ops_at p (drop i ks) ≡ by_first p k (ops_at p (drop (i + 1) ks))
left-are p ks i k within is = opened ∙ ap (λ (k : Sub). by_first p k (ops_at p (drop (i + 1) ks))) (sym is)
  where
    opened : ops_at p (drop i ks) ≡ by_first p (get_or ks i k) (ops_at p (drop (i + 1) ks))
    opened = rw (add-one, drop-cons ks i k) refl

left-here : (p : ℕ) (ks : List Sub) (i : ℕ) (k : Sub) → i < length ks → k ≡ get_or ks i k → k.node.0 ≡ p
    → ops_at p (drop i ks) ≡ k.ops ++ ops_at p (drop (i + 1) ks)
left-here p ks i k within is here =
    left-are p ks i k within is
    ∙ ap (λ (b : Bool). if b then k.ops ++ ops_at p (drop (i + 1) ks) else ops_at p (drop (i + 1) ks))
    (eq-eqb k.node.0 p here)

left-elsewhere : (p : ℕ) (ks : List Sub) (i : ℕ) (k : Sub) → i < length ks → k ≡ get_or ks i k → (k.node.0 ≡ p → ⊥)
    → ops_at p (drop i ks) ≡ ops_at p (drop (i + 1) ks)
left-elsewhere p ks i k within is apart =
    left-are p ks i k within is
    ∙ ap (λ (b : Bool). if b then k.ops ++ ops_at p (drop (i + 1) ks) else ops_at p (drop (i + 1) ks))
    (ne_eqb k.node.0 p apart)

-- a subtransaction at the node has an operation that can't be applied
pub stops : (v : Version) (p : ℕ) (ks : List Sub) (i : ℕ) (k : Sub) (items : Table) → i < length ks → k ≡ get_or ks i k
    → k.node.0 ≡ p → can_apply v k.ops items ≡ false
    → can_apply v (ops_at p (drop i ks)) items ≡ can_apply v (ops_at p ks) items
    → false ≡ can_apply v (ops_at p ks) items
stops v p ks i k items within is here none so_far =
    let rest = ops_at p (drop (i + 1) ks) in
    sym (ap (λ (os : List SubOp). can_apply v os items) (left-here p ks i k within is here)
    ∙ can_apply-append v k.ops rest items ∙ ap (λ (b : Bool). b && can_apply v rest items) none)
    ∙ so_far

-- all its operations can
pub passes : (v : Version) (p : ℕ) (ks : List Sub) (i : ℕ) (k : Sub) (items : Table) → i < length ks → k ≡ get_or ks i k
    → k.node.0 ≡ p → can_apply v k.ops items ≡ true
    → can_apply v (ops_at p (drop i ks)) items ≡ can_apply v (ops_at p ks) items
    → can_apply v (ops_at p (drop (i + 1) ks)) items ≡ can_apply v (ops_at p ks) items
passes v p ks i k items within is here all so_far =
    let rest = ops_at p (drop (i + 1) ks) in
    sym (ap (λ (os : List SubOp). can_apply v os items) (left-here p ks i k within is here)
    ∙ can_apply-append v k.ops rest items ∙ ap (λ (b : Bool). b && can_apply v rest items) all)
    ∙ so_far

-- it is at another node
pub skips : (v : Version) (p : ℕ) (ks : List Sub) (i : ℕ) (k : Sub) (items : Table) → i < length ks → k ≡ get_or ks i k
    → (k.node.0 ≡ p → ⊥) → can_apply v (ops_at p (drop i ks)) items ≡ can_apply v (ops_at p ks) items
    → can_apply v (ops_at p (drop (i + 1) ks)) items ≡ can_apply v (ops_at p ks) items
skips v p ks i k items within is apart so_far =
    sym (ap (λ (os : List SubOp). can_apply v os items) (left-elsewhere p ks i k within is apart)) ∙ so_far

valued-other : (v : Version) (w : Value) (m : Option Held) (x y : ItemNo) (t : Table) → (y.0 ≡ x.0 → ⊥)
    → item_in y (valued v w m x t) ≡ item_in y t
valued-other v w None x y t apart = refl
valued-other v w (Some h) x y t apart = item_in-replaced_other y x _ t apart

overwritten-other : (v : Version) (o : SubOp) (m : Option Value) (y : ItemNo) (t : Table) → (y.0 ≡ o.item.0 → ⊥)
    → item_in y (overwritten v o m t) ≡ item_in y t
overwritten-other v o None y t apart = refl
overwritten-other v o (Some w) y t apart = valued-other v _ (item_in o.item t) o.item y t apart

-- an operation leaves every other item
pub others-stay : (v : Version) (o : SubOp) (y : ItemNo) (t : Table) → (y.0 ≡ o.item.0 → ⊥)
    → item_in y (overwritten_in v o t) ≡ item_in y t
others-stay v o y t apart = by (overwrites o.deed)
  where
    by : (b : Bool) → item_in y (if b then overwritten v o (seen_in v o.item t) t else t) ≡ item_in y t
    by true = overwritten-other v o (seen_in v o.item t) y t apart
    by false = refl

stay-untouched : (v : Version) (o : SubOp) (os : List SubOp) (now before : Table)
    → AllByRecursion (λ y. nat_eq o.item.0 y ≡ false) (map (λ o. o.item.0) os) → AreUntouched os before now
    → AreUntouched os before (overwritten_in v o now)
stay-untouched v o [] now before apart same = tt
stay-untouched v o (y ∷ os) now before apart same =
    let other : y.item.0 ≡ o.item.0 → ⊥ = λ e. eqb-false o.item.0 y.item.0 apart.0 (sym e) in
    (others-stay v o y.item now other ∙ same.0, stay-untouched v o os now before apart.1 same.1)

-- one operation more is staged
pub staged_more : (v : Version) (all os : List SubOp) (o : SubOp) (now new before : Table)
    → IsStaging v all (o ∷ os) now before → new ≡ overwritten_in v o now → IsStaging v all os new before
staged_more v all os o now new before is made =
    let numbers : SubOp → ℕ = λ o. o.item.0 in
    let apart = IsDistinct-head nat_eq o.item.0 (map numbers os) is.once in
    let P : Table → Type 0 = λ t. AreUntouched os before t in
    record {
      once = IsDistinct-tail nat_eq o.item.0 (map numbers os) is.once;
      untouched = subst P (sym made) (stay-untouched v o os now before apart is.untouched.1);
      can = (and_parts (can_apply_op v o before) (can_apply v os before) is.can).1;
      leads = ap (λ (t : Table). applied_in v os t) made ∙ is.leads;
    }

-- the same by place
pub staged_at : (v : Version) (all : List SubOp) (i : ℕ) (d : SubOp) (now new before : Table) → i < length all
    → IsStaging v all (drop i all) now before → new ≡ overwritten_in v (get_or all i d) now
    → IsStaging v all (drop (i + 1) all) new before
staged_at v all i d now new before within is made =
    let P : List SubOp → Type 0 = λ os. IsStaging v all os now before in
    let opened : drop i all ≡ get_or all i d ∷ drop (i + 1) all = rw (add-one, drop-cons all i d) refl in
    staged_more v all (drop (i + 1) all) (get_or all i d) now new before (subst P opened is) made
