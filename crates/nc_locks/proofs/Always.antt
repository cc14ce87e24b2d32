-- What holds of locks whatever comes.
use Rattle.std.proofs.Common.{◌≡◌, Bool, true, false, ◌&&◌, ◌||◌, cond, eqb, List, [], ◌∷◌, map, refl, ap, subst, sym, ◌∙◌, Option, Some, None}
use Rattle.std.specs.List.{filter, list_any}
use Rattle.std.specs.Ordering.{is_eq, nat_cmp, ordering_then}
use Rattle.std.proofs.lemmas.Bool.{and_from, and_parts}
use Rattle.tv_base.specs.declared.numbers.ItemNo.{ItemNo}
use Rattle.tv_base.specs.declared.numbers.TreeNo.{TreeNo}
use Rattle.tv_base.proofs.Orderings.{is_eq-back, is_eq-number, is_eq-then}
use Rattle.nc_locks.specs.declared.modes.Lock.{Lock}
use Rattle.nc_locks.specs.declared.modes.Mode.{Mode}
use Rattle.nc_locks.specs.Laws.{FreedAscend, FreedAreGone, TakenStand, ListsAreTheirLocks, MetIsFirst, ModesAreLocks, NoneInWay, TakenAscend}
use Rattle.nc_locks.specs.Locks.{first_where, has_lock, is_in_way, lock_order, wanted_locks}
use Rattle.nc_locks.specs.Modes.{mode_rank}
use Rattle.nc_locks.specs.inside.Found.{IsFirst}
use Rattle.nc_locks.proofs.Firsts.{first-found}
use Rattle.nc_locks.proofs.Members.{has-with_each, has-without, same_locks, sorted-with_each, sorted-without}

pub taken_stand : TakenStand
taken_stand l t ws ls = has-with_each l (wanted_locks t ws) ls

pub freed_are_gone : FreedAreGone
freed_are_gone l t ls = has-without l t ls

pub taken_ascend : TakenAscend
taken_ascend t ws ls up = sorted-with_each (wanted_locks t ws) ls up

pub freed_ascend : FreedAscend
freed_ascend t ls up = sorted-without t ls up

pub lists_are_their_locks : ListsAreTheirLocks
lists_are_their_locks ls ms up up' same = same_locks ls ms up up' same

regrouped : (a b c : Bool) → (a && (b && c)) ≡ ((a && c) && b)
regrouped true true true = refl
regrouped true true false = refl
regrouped true false true = refl
regrouped true false false = refl
regrouped false b c = refl

-- a lock is another if item, tree and mode are the same
is_eq-parts : (l a : Lock)
    → is_eq (lock_order l a) ≡ ((eqb a.item.0 l.item.0 && eqb a.tree.0 l.tree.0) && eqb (mode_rank l.mode)
    (mode_rank a.mode))
is_eq-parts l a =
    is_eq-then (nat_cmp l.item.0 a.item.0)
    (ordering_then (nat_cmp (mode_rank l.mode) (mode_rank a.mode)) (nat_cmp l.tree.0 a.tree.0))
    ∙ ap (λ (b : Bool). is_eq (nat_cmp l.item.0 a.item.0) && b)
    (is_eq-then (nat_cmp (mode_rank l.mode) (mode_rank a.mode)) (nat_cmp l.tree.0 a.tree.0))
    ∙ (λ i. is_eq-number l.item.0 a.item.0 i
    && (is_eq-back (mode_rank l.mode) (mode_rank a.mode) i && is_eq-number l.tree.0 a.tree.0 i))
    ∙ regrouped (eqb a.item.0 l.item.0) (eqb (mode_rank l.mode) (mode_rank a.mode)) (eqb a.tree.0 l.tree.0)

abbrev is_mode : Lock → Mode → Bool
is_mode l m = eqb (mode_rank l.mode) (mode_rank m)

mode-by : (l a : Lock) (ls : List Lock) (b : Bool)
    → list_any (is_mode l) (map (λ (l : Lock). l.mode) (cond b (a ∷ ls) ls))
    ≡ ((b && is_mode l a.mode) || list_any (is_mode l) (map (λ (l : Lock). l.mode) ls))
mode-by l a ls true = refl
mode-by l a ls false = refl

pub modes_are_locks : ModesAreLocks
modes_are_locks l [] = refl
modes_are_locks l (a ∷ ls) =
    let here : Lock → Bool = λ (a : Lock). eqb a.item.0 l.item.0 && eqb a.tree.0 l.tree.0 in
    ap (λ (b : Bool). b || has_lock l ls) (is_eq-parts l a)
    ∙ ap (λ (b : Bool). (here a && is_mode l a.mode) || b) (modes_are_locks l ls)
    ∙ sym (mode-by l a (filter here ls) (here a))

found-is : (t : TreeNo) (x : ItemNo) (m : Mode) (ls : List Lock) (r : Option Lock)
    → first_where (is_in_way t x m) ls ≡ r → IsFirst (is_in_way t x m) ls r
found-is t x m ls r is =
    let P : Option Lock → Type 0 = λ r. IsFirst (is_in_way t x m) ls r in
    subst P is (first-found (is_in_way t x m) ls)

pub met_is_first : MetIsFirst
met_is_first t x m ls l is =
    let found = found-is t x m ls (Some l) is in
    let parts = and_parts (has_lock l ls) (is_in_way t x m l) found.0 in
    (parts.0, parts.1, λ q here there. found.1 q (and_from (has_lock q ls) (is_in_way t x m q) here there))

pub none_in_way : NoneInWay
none_in_way t x m ls is q here =
    ap (λ (b : Bool). b && is_in_way t x m q) (sym here) ∙ found-is t x m ls None is q
