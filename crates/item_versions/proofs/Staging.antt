-- Items that are staged already, at their places.
use Rattle.std.specs.Prelude.{IfOk, IfSome, IsTrue}
use Rattle.std.specs.Bool.{OnTrue}
use Rattle.std.specs.List.{slice_get}
use Rattle.std.proofs.Common.{◌≡◌, ℕ, ◌<◌, ◌≤◌, Bool, true, false, Ok, Err, Result, Option, Some, None, [], ◌∷◌, ◌++◌, length, set, refl, ap, sym, ◌∙◌, add-one, arith, inl, inr}
use Rattle.std.proofs.lemmas.Bool.{cases_eq, eq-eqb, ne_eqb}
use Rattle.std.proofs.lemmas.Bool.Decides.{nat_tests}
use Rattle.tv_base.specs.declared.numbers.ItemNo.{ItemNo}
use Rattle.tv_base.specs.declared.numbers.Version.{Version}
use Rattle.commute_ops.specs.declared.kinds.Op.{Op}
use Rattle.commute_ops.specs.declared.value.Value.{Value}
use Rattle.item_versions.specs.Item.{Held, touched, may_touch, has_room, put_value}
use Rattle.item_versions.specs.Table.{Table, item_in, replaced, touched_in, may_touch_in, has_room_in, put_value_in}
use Rattle.item_versions.specs.inside.StagedOps.{copied_over}
use Rattle.item_versions.specs.inside.Places.{item_place}
use Rattle.item_versions.proofs.Tables.{copied_over-with_item, copied_over-staged, item_in-copied_absent, item_in-copied_none, set-place_of_with, with_item-absent}

-- an item that may be updated is there; and one that has room
touch-of : (v : Version) (op : Op) (n : ItemNo) (t : Table) (o : Option Held) → item_in n t ≡ o
    → (elim o [ None ↦ false | Some h ↦ may_touch v op h ]) ≡ true
    → (h : Held) × (item_in n t ≡ Some h) × (may_touch v op h ≡ true)
touch-of v op n t None is may = cc
touch-of v op n t (Some h) is may = (h, is, may)

pub touch-there : (v : Version) (op : Op) (n : ItemNo) (t : Table) → may_touch_in v n op t ≡ true
    → (h : Held) × (item_in n t ≡ Some h) × (may_touch v op h ≡ true)
touch-there v op n t may = touch-of v op n t (item_in n t) refl may

room-of : (v : Version) (n : ItemNo) (t : Table) (o : Option Held) → item_in n t ≡ o
    → (elim o [ None ↦ false | Some h ↦ has_room v h ]) ≡ true
    → (h : Held) × (item_in n t ≡ Some h) × (has_room v h ≡ true)
room-of v n t None is room = cc
room-of v n t (Some h) is room = (h, is, room)

pub room-there : (v : Version) (n : ItemNo) (t : Table) → has_room_in v n t ≡ true
    → (h : Held) × (item_in n t ≡ Some h) × (has_room v h ≡ true)
room-there v n t room = room-of v n t (item_in n t) refl room

-- what lies at the place of an item
at-place : (n : ItemNo) (s : Table) → item_place n s < length s
    → (k : Held) × (slice_get s (item_place n s) ≡ Some (n, k)) × (item_in n s ≡ Some k)
at-place n [] lt = absurd (omega arith)
at-place n (e ∷ es) lt =
    elim (cases_eq e.0.0 n.0) [
      | inl eq ↦
          let same : e.0 ≡ n = λ i. record { 0 = eq i } in
          let here : Some e ≡ Some (n, e.1) = ap (λ (m : ItemNo). Some (m, e.1)) same in
          rw (eq-eqb e.0.0 n.0 eq) (e.1, here, refl)
      | inr ne ↦
          let within : item_place n es < length es = let less = rw (ne_eqb e.0.0 n.0 ne) at lt in omega arith in
          rw (ne_eqb e.0.0 n.0 ne, add-one) (at-place n es within)
    ]

there-of : (n : ItemNo) (s t : Table) (h : Held) (o : Option Held) → item_in n t ≡ o → item_in n (copied_over s t) ≡ Some h
    → (k : Held) × (item_in n t ≡ Some k)
there-of n s t h None is now = let none = item_in-copied_absent n s t is in cc
there-of n s t h (Some k) is now = (k, is)

-- what is pending of an item that is staged lies at its place
pub staged-there : (n : ItemNo) (s t : Table) (h : Held) → item_in n (copied_over s t) ≡ Some h → item_place n s < length s
    → slice_get s (item_place n s) ≡ Some (n, h)
staged-there n s t h now lt =
    let (k, at, is) = at-place n s lt in
    let (k', there) = there-of n s t h (item_in n t) refl now in
    let pend : item_in n (copied_over s t) ≡ Some k = copied_over-staged n k k' s t there is in
    let same : h ≡ k = cc in
    at ∙ ap (λ (z : Held). Some (n, z)) (sym same)

-- what is put at its place is pending
pub copied_over-set : (n : ItemNo) (s t : Table) (h : Held) → item_place n s < length s
    → copied_over (set s (item_place n s) (n, h)) t ≡ replaced n h (copied_over s t)
copied_over-set n s t h lt = ap (λ (z : Table). copied_over z t) (set-place_of_with n h s lt) ∙ copied_over-with_item n h s t

-- what is put at the end is pending
pub copied_over-last : (n : ItemNo) (s t : Table) (h : Held) → length s ≤ item_place n s
    → copied_over (s ++ (n, h) ∷ []) t ≡ replaced n h (copied_over s t)
copied_over-last n s t h le = ap (λ (z : Table). copied_over z t) (sym (with_item-absent n h s le)) ∙ copied_over-with_item n h s t

pub if_made : {E P Q : Type 0} (r : Result Bool E) → (P → Q) → IfOk r (λ made. OnTrue made P) → IfOk r (λ made. OnTrue made Q)
if_made (Ok true) f p = f p
if_made (Ok false) f p = tt
if_made (Err e) f p = tt

-- an item that is staged is changed at its place p
module _ (v : Version) (n : ItemNo) (s u t : Table) (p : ℕ)
    (same : s ≡ u) (at : p ≡ item_place n s) (lt : p < length s) where
  lies : (h : Held) → item_in n (copied_over u t) ≡ Some h → slice_get s p ≡ Some (n, h)
  lies h now =
      let now' : item_in n (copied_over s t) ≡ Some h = rw same now in
      let lt' : item_place n s < length s = omega arith in
      rw at (staged-there n s t h now' lt')

  put-there : (h : Held) (s' : Table) → s' ≡ set s p (n, h) → copied_over s' t ≡ replaced n h (copied_over u t)
  put-there h s' put =
      let lt' : item_place n s < length s = omega arith in
      ap (λ (z : Table). copied_over z t) (put ∙ ap (λ (k : ℕ). set s k (n, h)) at)
      ∙ copied_over-set n s t h lt' ∙ ap (λ (z : Table). replaced n h (copied_over z t)) same

  pub stage-room : has_room_in v n (copied_over u t) ≡ true → IfSome (slice_get s p) (λ e. IsTrue (has_room v e.1))
  stage-room room = let (h, now, can) = room-there v n (copied_over u t) room in rw (lies h now) can

  pub stage-put : (w : Value) (s' : Table) → has_room_in v n (copied_over u t) ≡ true
      → IfSome (slice_get s p) (λ e. s' ≡ set s p (e.0, put_value v w e.1))
      → copied_over s' t ≡ put_value_in v n w (copied_over u t)
  stage-put w s' room put =
      let (h, now, can) = room-there v n (copied_over u t) room in
      let put' : s' ≡ set s p (n, put_value v w h) = rw (lies h now) at put in
      put-there (put_value v w h) s' put' ∙ rw now refl

  -- of an item that the table has, what lies there is what is pending
  held-there : (k : Held) → item_in n t ≡ Some k
      → (h : Held) × (slice_get s p ≡ Some (n, h)) × (item_in n (copied_over u t) ≡ Some h)
  held-there k there =
      let lt' : item_place n s < length s = omega arith in
      let (h, here, is) = at-place n s lt' in
      (h, ap (λ (k : ℕ). slice_get s k) at ∙ here, ap (λ (z : Table). item_in n (copied_over z t)) (sym same) ∙ copied_over-staged n h k s t there is)

  -- so whether the update may be made, and what it makes, is told there
  module _ (op : Op) (k : Held) (there : item_in n t ≡ Some k) where
    pub touch-room : (IsTrue (may_touch_in v n op (copied_over u t)) → IsTrue (has_room_in v n (copied_over u t)))
        → IfSome (slice_get s p) (λ e. IsTrue (may_touch v op e.1) → IsTrue (has_room v e.1))
    touch-room room =
        let (h, here, now) = held-there k there in
        let room' : IsTrue (may_touch v op h) → IsTrue (has_room v h) = rw (now, may_touch_in, has_room_in) at room in
        rw here room'

    pub touch-may : {E : Type 0} (r : Result Bool E) → IfOk r (λ made. IfSome (slice_get s p) (λ e. made ≡ may_touch v op e.1))
        → IfOk r (λ made. made ≡ may_touch_in v n op (copied_over u t))
    touch-may r may = let (h, here, now) = held-there k there in rw (now, may_touch_in) (rw here at may)

    pub touch-made : {E : Type 0} (r : Result Bool E) (s' : Table)
        → IfOk r (λ made. OnTrue made (IfSome (slice_get s p) (λ e. s' ≡ set s p (e.0, touched v op e.1))))
        → IfOk r (λ made. OnTrue made (copied_over s' t ≡ touched_in v n op (copied_over u t)))
    touch-made r s' put =
        let (h, here, now) = held-there k there in
        let put' : IfOk r (λ made. OnTrue made (s' ≡ set s p (n, touched v op h))) = rw here at put in
        if_made r (λ (e : s' ≡ set s p (n, touched v op h)). put-there (touched v op h) s' e ∙ rw now refl) put'

absent : (n : ItemNo) (s : Table) → length s ≤ item_place n s → item_in n s ≡ None
absent n [] le = refl
absent n (e ∷ es) le =
    let rest : length es ≤ item_place n es → item_in n es ≡ None = absent n es in grind (arith, nat_tests)

-- what is pending of an item that is not staged is the table's
pub copied_over-absent : (n : ItemNo) (s t : Table) → length s ≤ item_place n s → item_in n (copied_over s t) ≡ item_in n t
copied_over-absent n s t le = item_in-copied_none n s t (absent n s le)
