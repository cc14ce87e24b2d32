-- Of each item of a table the versions stay in order.
use Rattle.std.specs.Prelude.{IfSome}
use Rattle.std.specs.List.{slice_get}
use Rattle.std.proofs.Common.{◌≡◌, ℕ, zero, suc, ◌<◌, [], ◌∷◌, ◌++◌, length, set, refl, Option, Some, None, ◌≤◌, arith, subst, sym}
use Rattle.tv_base.specs.declared.numbers.ItemNo.{ItemNo}
use Rattle.tv_base.specs.declared.numbers.Version.{Version}
use Rattle.commute_ops.specs.declared.kinds.Op.{Op}
use Rattle.commute_ops.specs.declared.value.Value.{Value}
use Rattle.item_versions.specs.Item.{Held, IsHeld, touched, put_value, collected}
use Rattle.item_versions.specs.History.{new_held}
use Rattle.item_versions.specs.Table.{Table, IsHeldTable, IsTable, item_in, replaced, updated, valued, touched_in, put_value_in}
use Rattle.item_versions.proofs.Halving.{IsAscending-replaced, IsAscending-set}
use Rattle.item_versions.proofs.Order.{IsHeld-touched, IsHeld-put_value, IsHeld-collected}
use Rattle.item_versions.proofs.Tables.{each-replaced, each-append, each-item, copied_over-push}

pub IsHeldTable-replaced : (n : ItemNo) (h : Held) (t : Table) → IsHeld h → IsHeldTable t → IsHeldTable (replaced n h t)
IsHeldTable-replaced n h t held all = each-replaced IsHeld n h t held all

pub IsHeld-item_in : (n : ItemNo) (t : Table) (h : Held) → item_in n t ≡ Some h → IsHeldTable t → IsHeld h
IsHeld-item_in n t h is all = each-item IsHeld n t h is all

pub IsHeldTable-added : (n : ItemNo) (w : Value) (t : Table) → IsHeldTable t
    → IsHeldTable (t ++ (n, new_held w) ∷ [])
IsHeldTable-added n w t all = each-append IsHeld t ((n, new_held w) ∷ []) all (tt, tt)

-- an update of one item
held-updated : (v : Version) (op : Op) (n : ItemNo) (t : Table) (o : Option Held) → item_in n t ≡ o → IsHeldTable t
    → IsHeldTable (updated v op o n t)
held-updated v op n t None is all = all
held-updated v op n t (Some h) is all =
    IsHeldTable-replaced n (touched v op h) t (IsHeld-touched v op h (IsHeld-item_in n t h is all)) all

pub IsHeldTable-touched_in : (v : Version) (n : ItemNo) (op : Op) (t : Table) → IsHeldTable t
    → IsHeldTable (touched_in v n op t)
IsHeldTable-touched_in v n op t all = held-updated v op n t (item_in n t) refl all

-- a value put in one item
held-valued : (v : Version) (w : Value) (n : ItemNo) (t : Table) (o : Option Held) → item_in n t ≡ o → IsHeldTable t
    → IsHeldTable (valued v w o n t)
held-valued v w n t None is all = all
held-valued v w n t (Some h) is all =
    IsHeldTable-replaced n (put_value v w h) t (IsHeld-put_value v w h (IsHeld-item_in n t h is all)) all

pub IsHeldTable-put_value_in : (v : Version) (n : ItemNo) (w : Value) (t : Table) → IsHeldTable t
    → IsHeldTable (put_value_in v n w t)
IsHeldTable-put_value_in v n w t all = held-valued v w n t (item_in n t) refl all

-- an item at a place
IsHeld-at : (t : Table) (p : ℕ) (e : ItemNo × Held) → IsHeldTable t → slice_get t p ≡ Some e → IsHeld e.1
IsHeld-at [] p e all is = cc
IsHeld-at (x ∷ t) zero e all is = let same : x ≡ e = cc in subst (λ (y : ItemNo × Held). IsHeld y.1) same all.0
IsHeld-at (x ∷ t) (suc p) e all is = IsHeld-at t p e all.1 is

IsHeldTable-set : (t : Table) (p : ℕ) (n : ItemNo) (h : Held) → IsHeld h → IsHeldTable t → IsHeldTable (set t p (n, h))
IsHeldTable-set [] p n h held all = tt
IsHeldTable-set (x ∷ t) zero n h held all = (held, all.1)
IsHeldTable-set (x ∷ t) (suc p) n h held all = (all.0, IsHeldTable-set t p n h held all.1)

-- past the end there is no item
pub none-past : (t : Table) (p : ℕ) → slice_get t p ≡ None → length t ≤ p
none-past [] p is = omega arith
none-past (e ∷ es) zero is = cc
none-past (e ∷ es) (suc p) is = let rest = none-past es p is in omega arith

-- a table stays one
pub IsTable-replaced : (n : ItemNo) (h : Held) (t : Table) → IsHeld h → IsTable t → IsTable (replaced n h t)
IsTable-replaced n h t held is = record {
  ascending = IsAscending-replaced n h t is.ascending;
  held = IsHeldTable-replaced n h t held is.held;
}

IsTable-collected : (t : Table) (p : ℕ) (e : ItemNo × Held) (f : Version) → IsTable t → slice_get t p ≡ Some e
    → IsTable (set t p (e.0, collected f e.1))
IsTable-collected t p e f is at = record {
  ascending = IsAscending-set t p e (collected f e.1) is.ascending at;
  held = IsHeldTable-set t p e.0 (collected f e.1) (IsHeld-collected f e.1 (IsHeld-at t p e is.held at)) is.held;
}

collected-of : (t new : Table) (p : ℕ) (f : Version) (o : Option (ItemNo × Held)) → slice_get t p ≡ o → p < length t
    → IsTable t → IfSome o (λ e. new ≡ set t p (e.0, collected f e.1)) → IsTable new
collected-of t new p f None at lt is put = let past = none-past t p at in absurd (omega arith)
collected-of t new p f (Some e) at lt is put = subst IsTable (sym put) (IsTable-collected t p e f is at)

pub IsTable-collected_at : (t new : Table) (p : ℕ) (f : Version) → p < length t → IsTable t
    → IfSome (slice_get t p) (λ e. new ≡ set t p (e.0, collected f e.1)) → IsTable new
IsTable-collected_at t new p f lt is put = collected-of t new p f (slice_get t p) refl lt is put

pub ruleset putting = (copied_over-push, IsTable-replaced)

pub ruleset adding = (IsHeldTable-added)
