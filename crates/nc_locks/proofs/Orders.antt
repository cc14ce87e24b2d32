-- Locks are ordered, by item as well as by transaction, and only a lock itself is equal to it.
use Rattle.std.proofs.Common.{◌≡◌, Bool, true, false, ◌&&◌, refl, ap, sym, ◌∙◌, arith}
use Rattle.std.specs.declared.cmp.Ordering.{Ordering}
use Rattle.std.specs.Cmp.{IsTotalOrder}
use Rattle.std.specs.Ordering.{nat_cmp, ordering_then, is_eq}
use Rattle.std.proofs.lemmas.Cmp.{nat_cmp_total, on_total, then_total, tied_itself}
use Rattle.std.proofs.lemmas.Map.Lookups.{CmpEqualImpliesEq, exact_unsigned}
use Rattle.tv_base.proofs.Orderings.{is_eq-then, is_eq-true, then_first, then_second}
use Rattle.nc_locks.specs.declared.modes.Lock.{Lock}
use Rattle.nc_locks.specs.declared.modes.Mode.{Mode}
use Rattle.nc_locks.specs.declared.modes.Mode.TheVariants.{Mark, Look, Hold}
use Rattle.nc_locks.specs.declared.owned.Owned.{Owned}
use Rattle.nc_locks.specs.Modes.{mode_rank}
use Rattle.nc_locks.specs.Locks.{lock_order}
use Rattle.nc_locks.specs.inside.Found.{owned, owned_order}

pub lock_total : IsTotalOrder lock_order
lock_total =
    then_total (on_total (λ (l : Lock). l.item.0) nat_cmp_total)
    (then_total (on_total (λ (l : Lock). mode_rank l.mode) nat_cmp_total)
    (on_total (λ (l : Lock). l.tree.0) nat_cmp_total))

pub owned_total : IsTotalOrder owned_order
owned_total =
    then_total (on_total (λ (o : Owned). o.tree.0) nat_cmp_total)
    (then_total (on_total (λ (o : Owned). o.item.0) nat_cmp_total)
    (on_total (λ (o : Owned). mode_rank o.mode) nat_cmp_total))

pub rank_exact : (m n : Mode) → mode_rank m ≡ mode_rank n → m ≡ n
rank_exact Mark Mark e = refl
rank_exact Look Look e = refl
rank_exact Hold Hold e = refl
rank_exact Mark Look e = absurd (omega (arith, e))
rank_exact Mark Hold e = absurd (omega (arith, e))
rank_exact Look Mark e = absurd (omega (arith, e))
rank_exact Look Hold e = absurd (omega (arith, e))
rank_exact Hold Mark e = absurd (omega (arith, e))
rank_exact Hold Look e = absurd (omega (arith, e))

-- three numbers, of which the second is a mode's, make a lock
pub same_parts : (a b : Lock) → a.item.0 ≡ b.item.0 → mode_rank a.mode ≡ mode_rank b.mode → a.tree.0 ≡ b.tree.0 → a ≡ b
same_parts a b x m t =
    let mode = rank_exact a.mode b.mode m in
    λ i. record { item = record { 0 = x i }; mode = mode i; tree = record { 0 = t i } }

-- a lock that is neither before nor behind another is the same
pub lock_exact : CmpEqualImpliesEq lock_order
lock_exact a b e =
    let items = nat_cmp a.item.0 b.item.0 in
    let modes = nat_cmp (mode_rank a.mode) (mode_rank b.mode) in
    let trees = nat_cmp a.tree.0 b.tree.0 in
    let rest = then_second items (ordering_then modes trees) e in
    same_parts a b (exact_unsigned _ _ (then_first items (ordering_then modes trees) e))
    (exact_unsigned _ _ (then_first modes trees rest)) (exact_unsigned _ _ (then_second modes trees rest))

pub same_lock : (a b : Lock) → is_eq (lock_order a b) ≡ true → a ≡ b
same_lock a b e = lock_exact a b (is_eq-true (lock_order a b) e)

pub itself : (a : Lock) → is_eq (lock_order a a) ≡ true
itself a = ap is_eq (tied_itself lock_total a)

and_turned : (a b c : Bool) → (c && (a && b)) ≡ (a && (b && c))
and_turned true true true = refl
and_turned true true false = refl
and_turned true false true = refl
and_turned true false false = refl
and_turned false b true = refl
and_turned false b false = refl

turned : (p q r : Ordering) → is_eq (ordering_then r (ordering_then p q)) ≡ is_eq (ordering_then p (ordering_then q r))
turned p q r =
    is_eq-then r (ordering_then p q) ∙ ap (λ (b : Bool). is_eq r && b) (is_eq-then p q)
    ∙ and_turned (is_eq p) (is_eq q) (is_eq r)
    ∙ sym (is_eq-then p (ordering_then q r) ∙ ap (λ (b : Bool). is_eq p && b) (is_eq-then q r))

-- locks are the same by tree if they are by item
pub owned_same : (a b : Lock) → is_eq (owned_order (owned a) (owned b)) ≡ is_eq (lock_order a b)
owned_same a b =
    turned (nat_cmp a.item.0 b.item.0) (nat_cmp (mode_rank a.mode) (mode_rank b.mode)) (nat_cmp a.tree.0 b.tree.0)
