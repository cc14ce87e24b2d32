-- Which locks are after some are added or taken away. Lists in order with the same locks are one.
use Rattle.std.proofs.Common.{◌≡◌, Bool, true, false, not, ◌&&◌, ◌||◌, eqb, List, [], ◌∷◌, refl, ap, sym, ◌∙◌}
use Rattle.std.specs.declared.cmp.Ordering.{Ordering}
use Rattle.std.specs.declared.cmp.Ordering.TheVariants.{Less, Equal, Greater}
use Rattle.std.specs.BTreeSet.{insert_key}
use Rattle.std.specs.List.{AllByRecursion}
use Rattle.std.specs.List.Sorted.{IsStrictlySortedBy}
use Rattle.std.specs.Ordering.{is_eq, match_ordering, ordering_reverse}
use Rattle.std.proofs.lemmas.Cmp.{alike_right}
use Rattle.std.proofs.lemmas.List.Kept.{IsStrictlySortedBy-filter}
use Rattle.std.proofs.lemmas.Map.Keys.{sorted_head, sorted_tail}
use Rattle.std.proofs.lemmas.Map.Lookups.{btree_set_from_contains}
use Rattle.std.proofs.lemmas.Map.Views.{any-filter_same}
use Rattle.tv_base.specs.declared.numbers.TreeNo.{TreeNo}
use Rattle.nc_locks.specs.declared.modes.Lock.{Lock}
use Rattle.nc_locks.specs.Locks.{AreLocks, Wanted, has_lock, lock_order, wanted_locks, with_each, with_locks, without}
use Rattle.nc_locks.specs.inside.Found.{AreAdded, AreTaken, OthersStay, missing_locks}
use Rattle.nc_locks.proofs.Orders.{lock_total, lock_exact, same_lock}

-- locks that are the same, each once in order, are one list
pub same_locks : (ls ms : List Lock) → AreLocks ls → AreLocks ms → ((l : Lock) → has_lock l ls ≡ has_lock l ms)
    → ls ≡ ms
same_locks ls ms up up' same =
    btree_set_from_contains lock_total (record { keys = ls }) (record { keys = ms }) up up' same lock_exact

or_again : (b c : Bool) → (b || c) ≡ (b || (b || c))
or_again true c = refl
or_again false c = refl

or_swapped : (a b c : Bool) → (a || (b || c)) ≡ (b || (a || c))
or_swapped true true c = refl
or_swapped true false c = refl
or_swapped false b c = refl

or_moved : (a b c : Bool) → (a || (b || c)) ≡ ((b || a) || c)
or_moved true true c = refl
or_moved true false c = refl
or_moved false true c = refl
or_moved false false c = refl

inserted-by : (l a x : Lock) (xs : List Lock) (r : Ordering) → lock_order a x ≡ r
    → has_lock l (insert_key lock_order xs a) ≡ (is_eq (lock_order l a) || has_lock l xs)
    → has_lock l (match_ordering r (a ∷ x ∷ xs) (x ∷ xs) (x ∷ insert_key lock_order xs a))
    ≡ (is_eq (lock_order l a) || (is_eq (lock_order l x) || has_lock l xs))
inserted-by l a x xs Less e rest = refl
inserted-by l a x xs Equal e rest =
    let same : is_eq (lock_order l a) ≡ is_eq (lock_order l x) = ap is_eq (alike_right lock_total a x l e) in
    or_again (is_eq (lock_order l x)) (has_lock l xs)
    ∙ ap (λ (b : Bool). b || (is_eq (lock_order l x) || has_lock l xs)) (sym same)
inserted-by l a x xs Greater e rest =
    ap (λ (b : Bool). is_eq (lock_order l x) || b) rest
    ∙ or_swapped (is_eq (lock_order l x)) (is_eq (lock_order l a)) (has_lock l xs)

-- a lock that is put in is there beside the others
pub has-inserted : (l a : Lock) (ls : List Lock)
    → has_lock l (insert_key lock_order ls a) ≡ (is_eq (lock_order l a) || has_lock l ls)
has-inserted l a [] = refl
has-inserted l a (x ∷ xs) = inserted-by l a x xs (lock_order a x) refl (has-inserted l a xs)

pub has-with_each : (l : Lock) (more ls : List Lock) → has_lock l (with_each more ls)
    ≡ (has_lock l more || has_lock l ls)
has-with_each l [] ls = refl
has-with_each l (a ∷ more) ls =
    has-with_each l more (insert_key lock_order ls a) ∙ ap (λ (b : Bool). has_lock l more || b) (has-inserted l a ls)
    ∙ or_moved (has_lock l more) (is_eq (lock_order l a)) (has_lock l ls)

-- each of them is behind the lock
abbrev AreBehind : Lock → List Lock → Type 0
AreBehind x ls = AllByRecursion (λ y. lock_order x y ≡ Less) ls

sorted-cons : (x : Lock) (xs : List Lock) → AreBehind x xs → AreLocks xs → AreLocks (x ∷ xs)
unfolding IsStrictlySortedBy
sorted-cons x xs behind up = (behind, up)

behind-trans : (a x : Lock) (xs : List Lock) → lock_order a x ≡ Less → AreBehind x xs → AreBehind a xs
behind-trans a x [] less behind = tt
behind-trans a x (y ∷ ys) less behind =
    (lock_total.trans a x y less behind.0, behind-trans a x ys less behind.1)

behind-by : (x a y : Lock) (ys : List Lock) (r : Ordering) → lock_order x a ≡ Less → AreBehind x (y ∷ ys)
    → AreBehind x (insert_key lock_order ys a)
    → AreBehind x (match_ordering r (a ∷ y ∷ ys) (y ∷ ys) (y ∷ insert_key lock_order ys a))
behind-by x a y ys Less less behind rest = (less, behind)
behind-by x a y ys Equal less behind rest = behind
behind-by x a y ys Greater less behind rest = (behind.0, rest)

behind-inserted : (x a : Lock) (xs : List Lock) → lock_order x a ≡ Less → AreBehind x xs
    → AreBehind x (insert_key lock_order xs a)
behind-inserted x a [] less behind = (less, tt)
behind-inserted x a (y ∷ ys) less behind =
    behind-by x a y ys (lock_order a y) less behind (behind-inserted x a ys less behind.1)

sorted-by : (a x : Lock) (xs : List Lock) (r : Ordering) → lock_order a x ≡ r → AreLocks (x ∷ xs)
    → AreLocks (insert_key lock_order xs a)
    → AreLocks (match_ordering r (a ∷ x ∷ xs) (x ∷ xs) (x ∷ insert_key lock_order xs a))
sorted-by a x xs Less e up rest =
    sorted-cons a (x ∷ xs) (e, behind-trans a x xs e (sorted_head lock_order x xs up)) up
sorted-by a x xs Equal e up rest = up
sorted-by a x xs Greater e up rest =
    let less : lock_order x a ≡ Less = lock_total.antisymm x a ∙ ap ordering_reverse e in
    sorted-cons x (insert_key lock_order xs a) (behind-inserted x a xs less (sorted_head lock_order x xs up)) rest

-- a lock is put in at its place
pub sorted-inserted : (a : Lock) (ls : List Lock) → AreLocks ls → AreLocks (insert_key lock_order ls a)
sorted-inserted a [] up = sorted-cons a [] tt up
sorted-inserted a (x ∷ xs) up =
    sorted-by a x xs (lock_order a x) refl up (sorted-inserted a xs (sorted_tail lock_order x xs up))

pub sorted-with_each : (more ls : List Lock) → AreLocks ls → AreLocks (with_each more ls)
sorted-with_each [] ls up = up
sorted-with_each (a ∷ more) ls up = sorted-with_each more (insert_key lock_order ls a) (sorted-inserted a ls up)

pub sorted-without : (t : TreeNo) (ls : List Lock) → AreLocks ls → AreLocks (without t ls)
sorted-without t ls up = IsStrictlySortedBy-filter lock_order (λ (l : Lock). not (eqb l.tree.0 t.0)) ls up

-- the locks of all other trees are
pub has-without : (l : Lock) (t : TreeNo) (ls : List Lock)
    → has_lock l (without t ls) ≡ (not (eqb l.tree.0 t.0) && has_lock l ls)
has-without l t ls =
    any-filter_same (λ a. is_eq (lock_order l a)) (λ (a : Lock). not (eqb a.tree.0 t.0)) (not (eqb l.tree.0 t.0))
    (λ a same. ap (λ (a : Lock). not (eqb a.tree.0 t.0)) (sym (same_lock l a same))) ls

-- the locks that are missing are those of the wanted that aren't
pub has-missing : (l : Lock) (t : TreeNo) (ws : Wanted) (ls : List Lock)
    → has_lock l (missing_locks t ws ls) ≡ (not (has_lock l ls) && has_lock l (wanted_locks t ws))
has-missing l t ws ls =
    any-filter_same (λ a. is_eq (lock_order l a)) (λ a. not (has_lock a ls)) (not (has_lock l ls))
    (λ a same. ap (λ (a : Lock). not (has_lock a ls)) (sym (same_lock l a same))) (wanted_locks t ws)

or_missing : (a b : Bool) → ((not a && b) || a) ≡ (b || a)
or_missing true true = refl
or_missing true false = refl
or_missing false true = refl
or_missing false false = refl

-- with those that were missing the tree has those that it needs
pub taken_all : (t : TreeNo) (ws : Wanted) (old new : List Lock) → AreLocks old
    → AreAdded (missing_locks t ws old) old new → new ≡ with_locks t ws old
taken_all t ws old new up added =
    same_locks new (with_locks t ws old) added.ascending (sorted-with_each (wanted_locks t ws) old up)
    (λ l. added.at l ∙ ap (λ (b : Bool). b || has_lock l old) (has-missing l t ws old)
    ∙ or_missing (has_lock l old) (has_lock l (wanted_locks t ws)) ∙ sym (has-with_each l (wanted_locks t ws) old))

undone-by : (m o n u w : Bool) → m ≡ (not o && w) → (m ≡ false → n ≡ o) → u ≡ (not m && n) → u ≡ o
undone-by true true n u w is stays gone = let no : true ≡ false = is in cc
undone-by true false n u w is stays gone = gone
undone-by false o n u w is stays gone = gone ∙ stays refl

-- once those that were missing are taken away, the locks are as before
pub undone : (t : TreeNo) (ws : Wanted) (old mid new : List Lock) → AreLocks old
    → OthersStay (missing_locks t ws old) old mid → AreTaken (missing_locks t ws old) mid new → new ≡ old
undone t ws old mid new up stay taken =
    same_locks new old taken.ascending up
    (λ l. undone-by (has_lock l (missing_locks t ws old)) (has_lock l old) (has_lock l mid) (has_lock l new)
    (has_lock l (wanted_locks t ws)) (has-missing l t ws old) (stay.at l) (taken.at l))
