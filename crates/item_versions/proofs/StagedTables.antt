-- What is pending, from operations that are made where their items are and from copies of items.
use Rattle.std.specs.Prelude.{IfSome, if◌then◌else◌}
use Rattle.std.specs.List.{All, slice_get}
use Rattle.std.proofs.Common.{◌≡◌, ℕ, ◌+◌, ◌<◌, ◌≤◌, ◌==◌, true, false, Option, Some, None, List, [], ◌∷◌, ◌++◌, length, get_or, set, refl, ap, sym, ◌∙◌, arith, inl, inr}
use Rattle.std.proofs.lemmas.Bool.{cases_eq, eq-eqb, ne_eqb}
use Rattle.std.proofs.lemmas.Option.{get_or_from_slice_get}
use Rattle.tv_base.specs.declared.numbers.ItemNo.{ItemNo}
use Rattle.tv_base.specs.declared.numbers.Version.{Version}
use Rattle.commute_ops.specs.declared.kinds.Op.{Op}
use Rattle.commute_ops.specs.declared.kinds.TheConstants.{MOST_AMOUNT}
use Rattle.commute_ops.specs.declared.value.Value.{Value}
use Rattle.item_versions.specs.declared.table.StagedOp.{StagedOp}
use Rattle.item_versions.specs.Item.{Held, IsHeld, has_room, held_in_place, may_touch, put_value, touched}
use Rattle.item_versions.specs.Table.{Table, ChangesAt, HasAscendingItems, InPlace, IsTable, StagedItems, Copied, has_room_in, item_in, made_in_place, may_touch_in, pending, put_value_in, replaced, table_in_place, touched_in}
use Rattle.item_versions.specs.inside.Places.{item_place}
use Rattle.item_versions.specs.inside.StagedOps.{amounts_of, copied_items, copied_over, held_after_staged, latest_first, staged_items, table_after_staged, takes_in_place}
use Rattle.item_versions.proofs.Halving.{item_in-at, item_in-none, replaced-at}
use Rattle.item_versions.proofs.Holding.{IsHeld-item_in, IsTable-replaced, none-past}
use Rattle.item_versions.proofs.Order.{IsHeld-in_place}
use Rattle.item_versions.proofs.Staging.{copied_over-absent, copied_over-last}
use Rattle.item_versions.proofs.Tables.{copied_over-push, copied_over-staged, item_in-copied_none, item_in-replaced_none, item_in-replaced_other, item_in-replaced_same}
use Rattle.item_versions.proofs.WhereHeld.{amounts-last, room-after_staged, updated-after_staged}

-- What is pending in parts.
pending-append : (xs ys : StagedItems) (t : Table) → pending (xs ++ ys) t ≡ pending xs (pending ys t)
pending-append [] ys t = refl
pending-append (Copied n h ∷ xs) ys t = ap (λ (z : Table). replaced n h z) (pending-append xs ys t)
pending-append (InPlace n v op ∷ xs) ys t = ap (λ (z : Table). table_in_place v n op z) (pending-append xs ys t)

pending-copied : (es t : Table) → pending (copied_items es) t ≡ copied_over es t
pending-copied [] t = refl
pending-copied (e ∷ es) t = ap (λ (z : Table). replaced e.0 e.1 z) (pending-copied es t)

pending-ops : (os : List StagedOp) (t : Table) → pending (latest_first os) t ≡ table_after_staged os t
pending-ops [] t = refl
pending-ops (o ∷ os) t =
    pending-append (latest_first os) (InPlace o.item o.version o.op ∷ []) t
    ∙ pending-ops os (table_in_place o.version o.item o.op t)

pub pending-parts : (es : Table) (os : List StagedOp) (t : Table)
    → pending (staged_items es os) t ≡ copied_over es (table_after_staged os t)
pending-parts es os t =
    pending-append (copied_items es) (latest_first os) t ∙ pending-copied es (pending (latest_first os) t)
    ∙ ap (λ (z : Table). copied_over es z) (pending-ops os t)

-- One operation.
in_place-none_by : (v : Version) (op : Op) (n m : ItemNo) (t : Table) (o : Option Held) → item_in n t ≡ None
    → item_in n (made_in_place v op o m t) ≡ None
in_place-none_by v op n m t None is = is
in_place-none_by v op n m t (Some h) is = item_in-replaced_none n m (held_in_place v op h) t is

in_place-other_by : (v : Version) (op : Op) (n m : ItemNo) (t : Table) (o : Option Held) → (n.0 ≡ m.0 → ⊥)
    → item_in n (made_in_place v op o m t) ≡ item_in n t
in_place-other_by v op n m t None ne = refl
in_place-other_by v op n m t (Some h) ne = item_in-replaced_other n m (held_in_place v op h) t ne

in_place-item : (v : Version) (op : Op) (n m : ItemNo) (t : Table) (h : Held) → item_in n t ≡ Some h
    → item_in n (table_in_place v m op t) ≡ Some (if m.0 == n.0 then held_in_place v op h else h)
in_place-item v op n m t h is =
    elim (cases_eq m.0 n.0) [
      | inl eq ↦
          let same : m ≡ n = λ i. record { 0 = eq i } in
          let there : item_in m t ≡ Some h = ap (λ (k : ItemNo). item_in k t) same ∙ is in
          rw (eq-eqb m.0 n.0 eq)
          (ap (λ (o : Option Held). item_in n (made_in_place v op o m t)) there
          ∙ item_in-replaced_same n m (held_in_place v op h) h t eq is)
      | inr ne ↦
          rw (ne_eqb m.0 n.0 ne) (in_place-other_by v op n m t (item_in m t) (λ q. ne (sym q)) ∙ is)
    ]

IsTable-in_place_by : (v : Version) (op : Op) (n : ItemNo) (t : Table) (o : Option Held) → item_in n t ≡ o → IsTable t
    → IsTable (made_in_place v op o n t)
IsTable-in_place_by v op n t None is table = table
IsTable-in_place_by v op n t (Some h) is table =
    IsTable-replaced n (held_in_place v op h) t (IsHeld-in_place v op h (IsHeld-item_in n t h is table.held)) table

pub IsTable-in_place : (v : Version) (op : Op) (n : ItemNo) (t : Table) → IsTable t → IsTable (table_in_place v n op t)
IsTable-in_place v op n t table = IsTable-in_place_by v op n t (item_in n t) refl table

-- it is made at the place of its item
at-by : (v : Version) (op : Op) (n : ItemNo) (t new : Table) (p : ℕ) (o : Option (ItemNo × Held)) → slice_get t p ≡ o
    → HasAscendingItems t → p < length t → ((d : ItemNo × Held) → (get_or t p d).0 ≡ n)
    → IfSome o (λ e. new ≡ set t p (e.0, held_in_place v op e.1)) → new ≡ table_in_place v n op t
at-by v op n t new p None at up lt is put = let past = none-past t p at in absurd (omega arith)
at-by v op n t new p (Some e) at up lt is put =
    let there : e ≡ get_or t p e = sym (get_or_from_slice_get t p e e at) in
    let same : e.0 ≡ n = ap (λ (x : ItemNo × Held). x.0) there ∙ is e in
    let found = item_in-at n t p e up lt there (ap (λ (m : ItemNo). m.0) same) in
    put ∙ ap (λ (m : ItemNo). set t p (m, held_in_place v op e.1)) same
    ∙ replaced-at n (held_in_place v op e.1) t p up lt is
    ∙ sym (ap (λ (o : Option Held). made_in_place v op o n t) found)

pub in_place-at : (v : Version) (op : Op) (n : ItemNo) (t new : Table) (p : ℕ) → HasAscendingItems t → p < length t
    → ((d : ItemNo × Held) → (get_or t p d).0 ≡ n) → ChangesAt p (held_in_place v op) t new
    → new ≡ table_in_place v n op t
in_place-at v op n t new p up lt is put = at-by v op n t new p (slice_get t p) refl up lt is put

pub in_place-none : (v : Version) (op : Op) (n : ItemNo) (t : Table) → All (λ e. e.0.0 ≡ n.0 → ⊥) t
    → t ≡ table_in_place v n op t
in_place-none v op n t none = sym (ap (λ (o : Option Held). made_in_place v op o n t) (item_in-none n t none))

-- All of them.
pub item_in-after : (n : ItemNo) (os : List StagedOp) (t : Table) (h : Held) → item_in n t ≡ Some h
    → item_in n (table_after_staged os t) ≡ Some (held_after_staged n os h)
item_in-after n [] t h is = is
item_in-after n (o ∷ os) t h is =
    item_in-after n os (table_in_place o.version o.item o.op t) _ (in_place-item o.version o.op n o.item t h is)

ops-last : (os : List StagedOp) (o : StagedOp) (t : Table)
    → table_after_staged (os ++ o ∷ []) t ≡ table_in_place o.version o.item o.op (table_after_staged os t)
ops-last [] o t = refl
ops-last (p ∷ os) o t = ops-last os o (table_in_place p.version p.item p.op t)

-- an item that isn't copied takes an operation before the copies are put in their places, or after
copied_over-replaced : (n : ItemNo) (h : Held) (es t : Table) → length es ≤ item_place n es
    → copied_over es (replaced n h t) ≡ replaced n h (copied_over es t)
copied_over-replaced n h es t le = sym (copied_over-push (n, h) es t) ∙ copied_over-last n es t h le

-- the item n of a table t, which isn't among the copies es, with operations os staged
module _ (v : Version) (n : ItemNo) (es : Table) (os : List StagedOp) (t : Table) (h : Held)
    (there : item_in n t ≡ Some h) (absent : length es ≤ item_place n es) where
  abbrev After : Table
  After = table_after_staged os t

  after : item_in n After ≡ Some (held_after_staged n os h)
  after = item_in-after n os t h there

  now : item_in n (copied_over es After) ≡ Some (held_after_staged n os h)
  now = copied_over-absent n es After absent ∙ after

  pub may-is : (op : Op)
      → may_touch_in v n op (pending (staged_items es os) t) ≡ may_touch v op (held_after_staged n os h)
  may-is op = ap (λ (z : Table). may_touch_in v n op z) (pending-parts es os t) ∙ rw (now, may_touch_in) refl

  pub room-is : has_room_in v n (pending (staged_items es os) t) ≡ has_room v (held_after_staged n os h)
  room-is = ap (λ (z : Table). has_room_in v n z) (pending-parts es os t) ∙ rw (now, has_room_in) refl

  -- it is copied
  pub copied-touched : (op : Op) (k : Held) → k ≡ touched v op (held_after_staged n os h)
      → pending (staged_items (es ++ (n, k) ∷ []) os) t ≡ touched_in v n op (pending (staged_items es os) t)
  copied-touched op k is =
      let last : copied_over (es ++ (n, k) ∷ []) After ≡ touched_in v n op (copied_over es After) =
      copied_over-last n es After k absent
      ∙ rw (now, touched_in) (ap (λ (z : Held). replaced n z (copied_over es After)) is) in
      pending-parts (es ++ (n, k) ∷ []) os t ∙ last
      ∙ ap (λ (z : Table). touched_in v n op z) (sym (pending-parts es os t))

  pub copied-valued : (w : Value) (k : Held) → k ≡ put_value v w (held_after_staged n os h)
      → pending (staged_items (es ++ (n, k) ∷ []) os) t ≡ put_value_in v n w (pending (staged_items es os) t)
  copied-valued w k is =
      let last : copied_over (es ++ (n, k) ∷ []) After ≡ put_value_in v n w (copied_over es After) =
      copied_over-last n es After k absent
      ∙ rw (now, put_value_in) (ap (λ (z : Held). replaced n z (copied_over es After)) is) in
      pending-parts (es ++ (n, k) ∷ []) os t ∙ last
      ∙ ap (λ (z : Table). put_value_in v n w z) (sym (pending-parts es os t))

  -- it takes the operation where it is
  module _ (op : Op) (m : ℕ) (held : IsHeld h) (takes : takes_in_place v op m h ≡ true)
      (most : m + amounts_of (os ++ record { item = n; version = v; op = op } ∷ []) ≤ MOST_AMOUNT) where
    is_updated : (may_touch v op (held_after_staged n os h) ≡ true)
        × (held_in_place v op (held_after_staged n os h) ≡ touched v op (held_after_staged n os h))
    is_updated =
        let last = amounts-last os (record { item = n; version = v; op = op }) in
        updated-after_staged v op m n os h held (omega (arith, last, most)) takes

    pub noted-may : true ≡ may_touch_in v n op (pending (staged_items es os) t)
    noted-may = sym (may-is op ∙ is_updated.0)

    pub noted-touched : pending (staged_items es (os ++ record { item = n; version = v; op = op } ∷ [])) t
        ≡ touched_in v n op (pending (staged_items es os) t)
    noted-touched =
        let one : copied_over es (table_in_place v n op After) ≡ touched_in v n op (copied_over es After) =
        ap (λ (o : Option Held). copied_over es (made_in_place v op o n After)) after
        ∙ copied_over-replaced n (held_in_place v op (held_after_staged n os h)) es After absent
        ∙ rw (now, touched_in) (ap (λ (z : Held). replaced n z (copied_over es After)) is_updated.1) in
        pending-parts es (os ++ record { item = n; version = v; op = op } ∷ []) t
        ∙ ap (λ (z : Table). copied_over es z) (ops-last os (record { item = n; version = v; op = op }) t) ∙ one
        ∙ ap (λ (z : Table). touched_in v n op z) (sym (pending-parts es os t))

-- an item that the table hasn't
item_in-pending_none : (n : ItemNo) (u : StagedItems) (t : Table) → item_in n t ≡ None → item_in n (pending u t) ≡ None
item_in-pending_none n [] t none = none
item_in-pending_none n (Copied m h ∷ u) t none =
    item_in-replaced_none n m h (pending u t) (item_in-pending_none n u t none)
item_in-pending_none n (InPlace m v op ∷ u) t none =
    in_place-none_by v op n m (pending u t) (item_in m (pending u t)) (item_in-pending_none n u t none)

pub none-may : (v : Version) (op : Op) (n : ItemNo) (u : StagedItems) (t : Table) → item_in n t ≡ None
    → false ≡ may_touch_in v n op (pending u t)
none-may v op n u t none = rw (item_in-pending_none n u t none, may_touch_in) refl

pub none-room : (v : Version) (n : ItemNo) (u : StagedItems) (t : Table) → item_in n t ≡ None
    → false ≡ has_room_in v n (pending u t)
none-room v n u t none = rw (item_in-pending_none n u t none, has_room_in) refl

-- the room of one that is copied, and of one that isn't
pub found-room : (v : Version) (n : ItemNo) (es : Table) (os : List StagedOp) (t : Table) (h k : Held)
    → item_in n t ≡ Some h → item_in n es ≡ Some k → has_room v k ≡ has_room_in v n (pending (staged_items es os) t)
found-room v n es os t h k there is =
    let now = copied_over-staged n k (held_after_staged n os h) es (table_after_staged os t) (item_in-after n os t h there) is in
    sym (ap (λ (z : Table). has_room_in v n z) (pending-parts es os t) ∙ rw (now, has_room_in) refl)

pub held-room : (v : Version) (n : ItemNo) (es : Table) (os : List StagedOp) (t : Table) (h : Held)
    → item_in n t ≡ Some h → item_in n es ≡ None → has_room v h ≡ has_room_in v n (pending (staged_items es os) t)
held-room v n es os t h there none =
    let now = item_in-copied_none n es (table_after_staged os t) none ∙ item_in-after n os t h there in
    sym (ap (λ (z : Table). has_room_in v n z) (pending-parts es os t)
    ∙ rw (now, has_room_in) (room-after_staged v n os h))

pub ruleset making = (in_place-at, in_place-none, IsTable-in_place)
