-- One turn of each loop over locks.
use Rattle.std.proofs.Common.{◌≡◌, ℕ, ◌+◌, ◌<◌, Bool, true, false, not, ◌&&◌, ◌||◌, eqb, List, [], ◌∷◌, ◌++◌, length, map, if◌then◌else◌, take, drop, get_or, zero, suc, refl, ap, subst, sym, ◌∙◌, add-one, drop-cons, Option, Some, None, Result, Ok, Err}
use Rattle.std.specs.List.{filter}
use Rattle.std.specs.Option.{option_or}
use Rattle.std.specs.Ordering.{is_eq}
use Rattle.std.specs.Result.{OnErr}
use Rattle.std.proofs.lemmas.Bool.{both_ways, eq-eqb, false_from_ne_true, or_from, or_parts}
use Rattle.std.proofs.lemmas.List.{append-nil, map-append, take_more}
use Rattle.std.proofs.lemmas.List.Elements.{filter-append}
use Rattle.std.proofs.lemmas.List.Folds.{list_any_more}
use Rattle.tv_base.specs.declared.numbers.ItemNo.{ItemNo}
use Rattle.tv_base.specs.declared.numbers.TreeNo.{TreeNo}
use Rattle.nc_locks.specs.declared.modes.Lock.{Lock}
use Rattle.nc_locks.specs.declared.modes.Mode.{Mode}
use Rattle.nc_locks.specs.Locks.{AreLocks, Wanted, first_where, has_lock, is_in_way, lock_of, lock_order, met_by, met_in, without}
use Rattle.nc_locks.specs.inside.Found.{AreAdded, AreTaken, IsLockOf, IsPartlyFree, OthersStay, missing_locks}
use Rattle.nc_locks.proofs.Members.{has-without, same_locks, sorted-without}
use Rattle.nc_locks.proofs.Orders.{same_lock}

-- what holds whatever an error says
pub any_err : {T E : Type 0} {P : Type 0} (r : Result T E) → P → OnErr r P
any_err (Ok x) p = tt
any_err (Err e) p = p

met_more : (t : TreeNo) (ws : Wanted) (i : ℕ) (d : _) (ls : List Lock) → i < length ws
    → met_in t (drop i ws) ls
    ≡ option_or (met_by (first_where (is_in_way t (get_or ws i d).0 (get_or ws i d).1) ls))
    (met_in t (drop (i + 1) ws) ls)
met_more t ws i d ls within = rw (add-one, drop-cons ws i d) refl

-- a lock is met at a wanted lock, and none was met before
pub met_found : (t : TreeNo) (ws : Wanted) (i : ℕ) (d : _) (ls : List Lock) (r : Option Lock) (l : Lock) → i < length ws
    → r ≡ first_where (is_in_way t (get_or ws i d).0 (get_or ws i d).1) ls → r ≡ Some l
    → met_in t ws ls ≡ met_in t (drop i ws) ls
    → Some (record { item = l.item; holder = l.tree; mode = l.mode }) ≡ met_in t ws ls
met_found t ws i d ls r l within found is so_far =
    sym (so_far ∙ met_more t ws i d ls within
    ∙ ap (λ (r : Option Lock). option_or (met_by r) (met_in t (drop (i + 1) ws) ls)) (sym found ∙ is))

-- none is met there
pub met_passed : (t : TreeNo) (ws : Wanted) (i : ℕ) (d : _) (ls : List Lock) (r : Option Lock) → i < length ws
    → r ≡ first_where (is_in_way t (get_or ws i d).0 (get_or ws i d).1) ls → r ≡ None
    → met_in t ws ls ≡ met_in t (drop i ws) ls → met_in t ws ls ≡ met_in t (drop (i + 1) ws) ls
met_passed t ws i d ls r within found is so_far =
    so_far ∙ met_more t ws i d ls within
    ∙ ap (λ (r : Option Lock). option_or (met_by r) (met_in t (drop (i + 1) ws) ls)) (sym found ∙ is)

or_more : (a b c : Bool) → ((b || false) || (a || c)) ≡ ((a || b) || c)
or_more true true c = refl
or_more true false c = refl
or_more false true c = refl
or_more false false c = refl

more_is : (l : Lock) (xs : List Lock) (i : ℕ) (d : Lock) → i < length xs
    → has_lock l (take (i + 1) xs) ≡ (has_lock l (take i xs) || is_eq (lock_order l (get_or xs i d)))
more_is l xs i d within = list_any_more (λ a. is_eq (lock_order l a)) xs i d within

-- one lock more is added
pub added_more : (xs : List Lock) (i : ℕ) (d : Lock) (old mid new : List Lock) → i < length xs
    → AreAdded (take i xs) old mid → AreAdded (get_or xs i d ∷ []) mid new → AreAdded (take (i + 1) xs) old new
added_more xs i d old mid new within before one =
    record {
      at = λ l.
          one.at l ∙ ap (λ (b : Bool). (is_eq (lock_order l (get_or xs i d)) || false) || b) (before.at l)
          ∙ or_more (has_lock l (take i xs)) (is_eq (lock_order l (get_or xs i d))) (has_lock l old)
          ∙ sym (ap (λ (b : Bool). b || has_lock l old) (more_is l xs i d within));
      ascending = one.ascending;
    }

and_more : (a b c : Bool) → (not (b || false) && (not a && c)) ≡ (not (a || b) && c)
and_more true true c = refl
and_more true false c = refl
and_more false true c = refl
and_more false false c = refl

-- one lock more is taken away
pub taken_more : (xs : List Lock) (i : ℕ) (d : Lock) (old mid new : List Lock) → i < length xs
    → AreTaken (take i xs) old mid → AreTaken (get_or xs i d ∷ []) mid new → AreTaken (take (i + 1) xs) old new
taken_more xs i d old mid new within before one =
    record {
      at = λ l.
          one.at l ∙ ap (λ (b : Bool). not (is_eq (lock_order l (get_or xs i d)) || false) && b) (before.at l)
          ∙ and_more (has_lock l (take i xs)) (is_eq (lock_order l (get_or xs i d))) (has_lock l old)
          ∙ sym (ap (λ (b : Bool). not b && has_lock l old) (more_is l xs i d within));
      ascending = one.ascending;
    }

none-before : (l : Lock) (xs : List Lock) (i : ℕ) → has_lock l xs ≡ false → has_lock l (take i xs) ≡ false
none-before l [] zero none = refl
none-before l [] (suc i) none = refl
none-before l (x ∷ xs) zero none = refl
none-before l (x ∷ xs) (suc i) none =
    let parts = or_parts (is_eq (lock_order l x)) (has_lock l xs) none in
    or_from (is_eq (lock_order l x)) (has_lock l (take i xs)) parts.0 (none-before l xs i parts.1)

-- if memory runs out, no other lock is added
pub added_some : (xs : List Lock) (i : ℕ) (old mid new : List Lock) → AreAdded (take i xs) old mid → new ≡ mid
    → OthersStay xs old new
added_some xs i old mid new before stays =
    record {
      at = λ l none.
          ap (λ (ls : List Lock). has_lock l ls) stays ∙ before.at l
          ∙ ap (λ (b : Bool). b || has_lock l old) (none-before l xs i none);
      ascending = subst (λ (ls : List Lock). AreLocks ls) (sym stays) before.ascending;
    }

stays-by : (b : Bool) (o n : Bool) → b ≡ false → n ≡ (not (b || false) && o) → n ≡ o
stays-by true o n apart e = let h : true ≡ false = apart in cc
stays-by false o n apart e = e

-- one lock more of a tree is freed
pub freed_more : (t : TreeNo) (a : Lock) (old mid new : List Lock) → IsPartlyFree t old mid → a.tree.0 ≡ t.0
    → AreTaken (a ∷ []) mid new → IsPartlyFree t old new
freed_more t a old mid new before own one =
    record {
      at = λ l other.
          stays-by (is_eq (lock_order l a)) (has_lock l mid) (has_lock l new) (apart l other) (one.at l)
          ∙ before.at l other;
      ascending = one.ascending;
    }
  where
    apart-by : (l : Lock) (b : Bool) → is_eq (lock_order l a) ≡ b → eqb l.tree.0 t.0 ≡ false → b ≡ false
    apart-by l true same other =
        let own' : l.tree.0 ≡ t.0 = ap (λ (l : Lock). l.tree.0) (same_lock l a same) ∙ own in
        sym (eq-eqb l.tree.0 t.0 own') ∙ other
    apart-by l false same other = refl

    apart : (l : Lock) → eqb l.tree.0 t.0 ≡ false → is_eq (lock_order l a) ≡ false
    apart l other = apart-by l (is_eq (lock_order l a)) refl other

-- if none of the tree's is left, all are freed
pub freed_all : (t : TreeNo) (old new : List Lock) → AreLocks old → IsPartlyFree t old new → IsLockOf t new None
    → new ≡ without t old
freed_all t old new up free none =
    same_locks new (without t old) free.ascending (sorted-without t old up)
    (λ l. by l (eqb l.tree.0 t.0) refl ∙ sym (has-without l t old))
  where
    by : (l : Lock) (b : Bool) → eqb l.tree.0 t.0 ≡ b → has_lock l new ≡ (not b && has_lock l old)
    by l true own = false_from_ne_true (has_lock l new) (λ here. both_ways (eqb l.tree.0 t.0) (none l here) own)
    by l false other = free.at l other

-- one wanted lock more is looked at
pub missing_more : (t : TreeNo) (ws : Wanted) (i : ℕ) (d : _) (ls : List Lock) → i < length ws
    → missing_locks t (take (i + 1) ws) ls
    ≡ missing_locks t (take i ws) ls ++ missing_locks t (get_or ws i d ∷ []) ls
missing_more t ws i d ls within =
    let lock : ItemNo × Mode → Lock = λ w. lock_of t w.0 w.1 in
    ap (λ (ws : Wanted). missing_locks t ws ls) (take_more ws i d within)
    ∙ ap (λ (xs : List Lock). filter (λ l. not (has_lock l ls)) xs) (map-append lock (take i ws) (get_or ws i d ∷ []))
    ∙ filter-append (λ l. not (has_lock l ls)) (map lock (take i ws)) (lock (get_or ws i d) ∷ [])

missing-by : (l : Lock) (ls : List Lock) (b : Bool) → has_lock l ls ≡ b
    → filter (λ l. not (has_lock l ls)) (l ∷ []) ≡ (if b then [] else l ∷ [])
missing-by l ls b e =
    ap (λ (b : Bool). if not b then l ∷ [] else []) e ∙ turned b
  where
    turned : (b : Bool) → (if not b then l ∷ [] else []) ≡ (if b then [] else l ∷ [])
    turned true = refl
    turned false = refl

-- it is
pub missing_kept : (t : TreeNo) (ws : Wanted) (i : ℕ) (d : _) (ls found : List Lock) → i < length ws
    → found ≡ missing_locks t (take i ws) ls → has_lock (lock_of t (get_or ws i d).0 (get_or ws i d).1) ls ≡ true
    → found ≡ missing_locks t (take (i + 1) ws) ls
missing_kept t ws i d ls found within so_far here =
    let l = lock_of t (get_or ws i d).0 (get_or ws i d).1 in
    sym (missing_more t ws i d ls within ∙ ap (λ (xs : List Lock). missing_locks t (take i ws) ls ++ xs)
    (missing-by l ls true here)
    ∙ append-nil (missing_locks t (take i ws) ls) ∙ sym so_far)

-- it is missing
pub missing_pushed : (t : TreeNo) (ws : Wanted) (i : ℕ) (d : _) (ls found next : List Lock) → i < length ws
    → found ≡ missing_locks t (take i ws) ls → has_lock (lock_of t (get_or ws i d).0 (get_or ws i d).1) ls ≡ false
    → next ≡ found ++ lock_of t (get_or ws i d).0 (get_or ws i d).1 ∷ [] → next ≡ missing_locks t (take (i + 1) ws) ls
missing_pushed t ws i d ls found next within so_far none pushed =
    let l = lock_of t (get_or ws i d).0 (get_or ws i d).1 in
    pushed ∙ ap (λ (xs : List Lock). xs ++ l ∷ []) so_far
    ∙ sym (missing_more t ws i d ls within
    ∙ ap (λ (xs : List Lock). missing_locks t (take i ws) ls ++ xs) (missing-by l ls false none))
