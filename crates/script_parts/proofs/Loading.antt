-- Items' totals with the magnitudes of some operations and subtransactions added or taken off, one after the other, and
-- whether one is too great then.
use Rattle.std.proofs.Common.{◌≡◌, ◌<◌, ◌≤◌, ◌+◌, [], ◌∷◌, ℕ, Bool, true, false, List, length, drop, get_or, refl, sym, ap, ◌∙◌, subst, arith, add-one, drop-cons, inl, inr}
use Rattle.std.specs.Prelude.{if◌then◌else◌, nat_lt}
use Rattle.std.specs.List.{AllByRecursion}
use Rattle.std.proofs.Math.ListN.{set}
use Rattle.std.proofs.lemmas.Bool.{cases_eq, cases_lt, or_from, le-ltb, ltb-false}
use Rattle.std.proofs.lemmas.List.{get_or-set_other, get_or-set_same, length-set}
use Rattle.script_parts.specs.Amounts.{magnitude}
use Rattle.script_parts.specs.Loads.{IsReloaded, Reloads, OpWithin, SubWithin, ops_heavy, subs_heavy}
use Rattle.script_parts.specs.Valid.{ops_load, subs_load}
use Rattle.script_parts.specs.declared.parts.Sub.{Sub}
use Rattle.script_parts.specs.declared.parts.SubOp.{SubOp}
use Rattle.script_parts.proofs.Lists.{or_left, or_right}
use Rattle.script_parts.proofs.Totals.{load_other, load_same}

-- the rest of a list, from one of its places on
pub rest_at : {A : Type 0} (xs : List A) (i : ℕ) (d : A) → i < length xs → drop i xs ≡ get_or xs i d ∷ drop (i + 1) xs
rest_at xs i d lt = rw add-one (drop-cons xs i d lt)

-- of the operations all but the rest are added
pub record OpsLoaded (was now : List ℕ) (all rest : List SubOp) : Type 0 where
  pub len : length now ≡ length was
  pub within : AllByRecursion (OpWithin (length was)) rest
  pub loads : (k : ℕ) → k < length was → get_or now k 0 + ops_load k rest ≡ get_or was k 0 + ops_load k all

pub record OpsUnloaded (was now : List ℕ) (all rest : List SubOp) : Type 0 where
  pub len : length now ≡ length was
  pub within : AllByRecursion (OpWithin (length was)) rest
  pub loads : (k : ℕ) → k < length was → get_or now k 0 + ops_load k all ≡ get_or was k 0 + ops_load k rest
  pub enough : (k : ℕ) → k < length was → ops_load k rest ≤ get_or now k 0

pub record SubsLoaded (was now : List ℕ) (all rest : List Sub) : Type 0 where
  pub len : length now ≡ length was
  pub within : AllByRecursion (SubWithin (length was)) rest
  pub loads : (k : ℕ) → k < length was → get_or now k 0 + subs_load k rest ≡ get_or was k 0 + subs_load k all

pub record SubsUnloaded (was now : List ℕ) (all rest : List Sub) : Type 0 where
  pub len : length now ≡ length was
  pub within : AllByRecursion (SubWithin (length was)) rest
  pub loads : (k : ℕ) → k < length was → get_or now k 0 + subs_load k all ≡ get_or was k 0 + subs_load k rest
  pub enough : (k : ℕ) → k < length was → subs_load k rest ≤ get_or now k 0

-- one more operation
pub op_loaded : (was now : List ℕ) (all rest : List SubOp) (o : SubOp) (v : ℕ) → v ≡ get_or now o.item.0 0 + magnitude o.deed → OpsLoaded was now all (o ∷ rest) → OpsLoaded was (set now o.item.0 v) all rest
op_loaded was now all rest o v is h = record {
  len = omega (arith, length-set {A = ℕ} now o.item.0 v, h.len);
  within = h.within.1;
  loads = λ k lt. elim (cases_eq k o.item.0) [
    | inl e ↦ rw e (omega (arith, get_or-set_same now o.item.0 v 0 (omega (arith, h.within.0, h.len)), h.loads o.item.0 h.within.0, load_same o o.item.0 refl, is))
    | inr ne ↦ omega (arith, get_or-set_other now o.item.0 k v 0 ne, h.loads k lt, load_other o k (λ q. ne (sym q)))
  ];
}

pub op_unloaded : (was now : List ℕ) (all rest : List SubOp) (o : SubOp) (v : ℕ) → v + magnitude o.deed ≡ get_or now o.item.0 0 → OpsUnloaded was now all (o ∷ rest) → OpsUnloaded was (set now o.item.0 v) all rest
op_unloaded was now all rest o v is h = record {
  len = omega (arith, length-set {A = ℕ} now o.item.0 v, h.len);
  within = h.within.1;
  loads = λ k lt. elim (cases_eq k o.item.0) [
    | inl e ↦ rw e (omega (arith, get_or-set_same now o.item.0 v 0 (omega (arith, h.within.0, h.len)), h.loads o.item.0 h.within.0, load_same o o.item.0 refl, is))
    | inr ne ↦ omega (arith, get_or-set_other now o.item.0 k v 0 ne, h.loads k lt, load_other o k (λ q. ne (sym q)))
  ];
  enough = λ k lt. elim (cases_eq k o.item.0) [
    | inl e ↦ rw e (omega (arith, get_or-set_same now o.item.0 v 0 (omega (arith, h.within.0, h.len)), h.enough o.item.0 h.within.0, load_same o o.item.0 refl, is))
    | inr ne ↦ omega (arith, get_or-set_other now o.item.0 k v 0 ne, h.enough k lt, load_other o k (λ q. ne (sym q)))
  ];
}

-- one more subtransaction
pub sub_loaded : (was now next : List ℕ) (all rest : List Sub) (s : Sub) → length next ≡ length now → ((k : ℕ) → k < length now → get_or next k 0 ≡ get_or now k 0 + ops_load k s.ops)
    → SubsLoaded was now all (s ∷ rest) → SubsLoaded was next all rest
sub_loaded was now next all rest s len loads h = record {
  len = omega (arith, len, h.len);
  within = h.within.1;
  loads = λ k lt. omega (arith, loads k (omega (arith, h.len)), h.loads k lt);
}

pub sub_unloaded : (was now next : List ℕ) (all rest : List Sub) (s : Sub) → length next ≡ length now → ((k : ℕ) → k < length now → get_or next k 0 + ops_load k s.ops ≡ get_or now k 0)
    → SubsUnloaded was now all (s ∷ rest) → SubsUnloaded was next all rest
sub_unloaded was now next all rest s len loads h = record {
  len = omega (arith, len, h.len);
  within = h.within.1;
  loads = λ k lt. omega (arith, loads k (omega (arith, h.len)), h.loads k lt);
  enough = λ k lt. omega (arith, loads k (omega (arith, h.len)), h.enough k lt);
}

-- there is room for one more operation
pub op_has_room : (was now : List ℕ) (all rest : List SubOp) (o : SubOp) (n : ℕ) → OpsLoaded was now all (o ∷ rest) → ((k : ℕ) → k < length was → get_or was k 0 + ops_load k all < n)
    → get_or now o.item.0 0 + magnitude o.deed < n
op_has_room was now all rest o n h room = omega (arith, h.loads o.item.0 h.within.0, room o.item.0 h.within.0, load_same o o.item.0 refl)

-- there is enough for one more operation to be taken off
pub op_has_enough : (was now : List ℕ) (all rest : List SubOp) (o : SubOp) → OpsUnloaded was now all (o ∷ rest) → magnitude o.deed ≤ get_or now o.item.0 0
op_has_enough was now all rest o h = omega (arith, h.enough o.item.0 h.within.0, load_same o o.item.0 refl)

-- where no item that the operations are on is heavy, an item is light or has none of them

ops_light : (most : ℕ) (totals : List ℕ) (k : ℕ) (os : List SubOp) → ops_heavy most totals os ≡ false → 0 < ops_load k os → get_or totals k 0 ≤ most
ops_light most totals k [] light some = absurd (omega arith)
ops_light most totals k (o ∷ os) light some =
    let one = ltb-false most (get_or totals o.item.0 0) (or_left (nat_lt most (get_or totals o.item.0 0)) (ops_heavy most totals os) light) in
    let rest = or_right (nat_lt most (get_or totals o.item.0 0)) (ops_heavy most totals os) light in
    elim (cases_eq o.item.0 k) [
      | inl e ↦ subst (λ (j : ℕ). get_or totals j 0 ≤ most) e one
      | inr ne ↦ ops_light most totals k os rest (omega (arith, load_other o k ne))
    ]

subs_light : (most : ℕ) (totals : List ℕ) (k : ℕ) (ss : List Sub) → subs_heavy most totals ss ≡ false → 0 < subs_load k ss → get_or totals k 0 ≤ most
subs_light most totals k [] light some = absurd (omega arith)
subs_light most totals k (s ∷ ss) light some =
    let one = or_left (ops_heavy most totals s.ops) (subs_heavy most totals ss) light in
    let rest = or_right (ops_heavy most totals s.ops) (subs_heavy most totals ss) light in
    elim (cases_lt 0 (ops_load k s.ops)) [
      | inl here ↦ ops_light most totals k s.ops one here
      | inr none ↦ subs_light most totals k ss rest (omega arith)
    ]

-- where all totals were small, and none of those that the new operations are on is too great, all are small
pub all_light : (was now : List ℕ) (off on : List Sub) (most : ℕ) → IsReloaded was now off on → ((k : ℕ) → k < length was → get_or was k 0 ≤ most) → subs_heavy most now on ≡ false
    → (k : ℕ) → k < length was → get_or now k 0 ≤ most
all_light was now off on most r small light k lt = elim (cases_lt 0 (subs_load k on)) [
  | inl some ↦ subs_light most now k on light some
  | inr none ↦ omega (arith, r.loads k lt, small k lt)
]

-- and where all totals are small, none of those is too great

ops_not_heavy : (most : ℕ) (totals : List ℕ) (os : List SubOp) → AllByRecursion (OpWithin (length totals)) os → ((k : ℕ) → k < length totals → get_or totals k 0 ≤ most) → ops_heavy most totals os ≡ false
ops_not_heavy most totals [] within small = refl
ops_not_heavy most totals (o ∷ os) within small =
    or_from (nat_lt most (get_or totals o.item.0 0)) (ops_heavy most totals os) (le-ltb most (get_or totals o.item.0 0) (small o.item.0 within.0)) (ops_not_heavy most totals os within.1 small)

pub not_heavy : (most : ℕ) (totals : List ℕ) (ss : List Sub) → AllByRecursion (SubWithin (length totals)) ss → ((k : ℕ) → k < length totals → get_or totals k 0 ≤ most) → subs_heavy most totals ss ≡ false
not_heavy most totals [] within small = refl
not_heavy most totals (s ∷ ss) within small =
    or_from (ops_heavy most totals s.ops) (subs_heavy most totals ss) (ops_not_heavy most totals s.ops within.0 small) (not_heavy most totals ss within.1 small)

-- the totals where others took their place
pub new_totals : (most : ℕ) (was now : List ℕ) (off on : List Sub) (done : Bool) → Reloads most was now off on done → done ≡ true → IsReloaded was now off on
new_totals most was now off on done r e =
    subst (λ (l : List ℕ). IsReloaded was l off on) (sym (r.put ∙ ap (λ (b : Bool). if b then r.totals else was) e)) r.reloaded
