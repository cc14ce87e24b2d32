-- The first of the locks that pass a test, and of those that pass either of two.
use Rattle.std.proofs.Common.{◌≡◌, ℕ, Bool, true, false, not, ◌&&◌, ◌||◌, eqb, ltb, leb, List, [], ◌∷◌, refl, ap, subst, sym, ◌∙◌, arith, cond, Option, Some, None, inl, inr}
use Rattle.std.specs.Ordering.{is_eq}
use Rattle.std.proofs.lemmas.Bool.{and_from, and_parts, cases_Bool}
use Rattle.std.proofs.lemmas.Bool.Decides.{nat_tests}
use Rattle.tv_base.specs.declared.numbers.ItemNo.{ItemNo}
use Rattle.tv_base.specs.declared.numbers.TreeNo.{TreeNo}
use Rattle.nc_locks.specs.declared.modes.Lock.{Lock}
use Rattle.nc_locks.specs.declared.modes.Mode.{Mode}
use Rattle.nc_locks.specs.declared.modes.Mode.TheVariants.{Mark, Look, Hold}
use Rattle.nc_locks.specs.Modes.{modes_conflict, mode_rank}
use Rattle.nc_locks.specs.Locks.{comes_first, first_of, first_where, has_lock, is_in_way, lock_of, lock_order}
use Rattle.nc_locks.specs.inside.Found.{IsFirst, IsFirstOf, is_of_other}
use Rattle.nc_locks.proofs.Orders.{itself, same_lock, same_parts}

-- the order of two locks on an item, by the numbers of their trees and modes
abbrev comes : ℕ → ℕ → ℕ → ℕ → Bool
comes t m u n = ltb t u || (eqb t u && leb m n)

comes-itself : (t m : ℕ) → comes t m t m ≡ true
comes-itself t m = grind (arith, nat_tests)

comes-on : (t m u n v o : ℕ) → comes t m u n ≡ true → comes u n v o ≡ true → comes t m v o ≡ true
comes-on t m u n v o a b = grind (arith, nat_tests)

comes-back : (t m u n : ℕ) → comes t m u n ≡ false → comes u n t m ≡ true
comes-back t m u n a = grind (arith, nat_tests)

comes-trees : (t m u n : ℕ) → comes t m u n ≡ true → comes u n t m ≡ true → t ≡ u
comes-trees t m u n a b = grind (arith, nat_tests)

comes-modes : (t m u n : ℕ) → comes t m u n ≡ true → comes u n t m ≡ true → m ≡ n
comes-modes t m u n a b = grind (arith, nat_tests)

pub first-itself : (l : Lock) → comes_first l l ≡ true
first-itself l = comes-itself l.tree.0 (mode_rank l.mode)

pub first-trans : (a b c : Lock) → comes_first a b ≡ true → comes_first b c ≡ true → comes_first a c ≡ true
first-trans a b c e f =
    comes-on a.tree.0 (mode_rank a.mode) b.tree.0 (mode_rank b.mode) c.tree.0 (mode_rank c.mode) e f

pub first-back : (a b : Lock) → comes_first a b ≡ false → comes_first b a ≡ true
first-back a b e = comes-back a.tree.0 (mode_rank a.mode) b.tree.0 (mode_rank b.mode) e

-- either of two tests
abbrev IsEither : (Lock → Bool) → (Lock → Bool) → (Lock → Bool) → Type 0
IsEither p q test = (l : Lock) → test l ≡ (p l || q l)

either-left : (x p q : Bool) → x ≡ (p || q) → p ≡ true → x ≡ true
either-left x true q e is = e
either-left x false q e is = let no : false ≡ true = is in cc

either-right : (x p q : Bool) → x ≡ (p || q) → q ≡ true → x ≡ true
either-right x true q e is = e
either-right x false q e is = e ∙ is

either-none : (x p q : Bool) → x ≡ (p || q) → p ≡ false → q ≡ false → x ≡ false
either-none x true q e p' q' = let no : true ≡ false = p' in cc
either-none x false q e p' q' = e ∙ q'

either-other : (x p q : Bool) → x ≡ (p || q) → x ≡ true → p ≡ false → q ≡ true
either-other x true q e is p' = let no : true ≡ false = p' in cc
either-other x false q e is p' = sym e ∙ is

-- if one of two comes before the other, it comes before all that pass either test
before-all : (p q test : Lock → Bool) → IsEither p q test → (a b : Lock) → comes_first a b ≡ true
    → ((l : Lock) → p l ≡ true → comes_first a l ≡ true) → ((l : Lock) → q l ≡ true → comes_first b l ≡ true)
    → (l : Lock) → test l ≡ true → comes_first a l ≡ true
before-all p q test either a b less least least' l is =
    elim (cases_Bool (p l)) [
      | inl here ↦ least l here
      | inr off ↦ first-trans a b l less (least' l (either-other (test l) (p l) (q l) (either l) is off))
    ]

either-swapped : (p q test : Lock → Bool) → IsEither p q test → IsEither q p test
either-swapped p q test either l = either l ∙ swapped (p l) (q l)
  where
    swapped : (a b : Bool) → (a || b) ≡ (b || a)
    swapped true true = refl
    swapped true false = refl
    swapped false true = refl
    swapped false false = refl

chosen : (p q test : Lock → Bool) → IsEither p q test → (a b : Lock) → IsFirstOf p (Some a) → IsFirstOf q (Some b)
    → (c : Bool) → comes_first a b ≡ c → IsFirstOf test (cond c (Some a) (Some b))
chosen p q test either a b is is' true e =
    (either-left (test a) (p a) (q a) (either a) is.0, before-all p q test either a b e is.1 is'.1)
chosen p q test either a b is is' false e = (
  either-right (test b) (p b) (q b) (either b) is'.0,
  before-all q p test (either-swapped p q test either) b a (first-back a b e) is'.1 is.1,
)

-- the first of those that pass either of two tests is the first of the firsts
pub joined : (p q test : Lock → Bool) → IsEither p q test → (a b : Option Lock) → IsFirstOf p a → IsFirstOf q b
    → IsFirstOf test (first_of a b)
joined p q test either None None none none' = λ l. either-none (test l) (p l) (q l) (either l) (none l) (none' l)
joined p q test either None (Some b) none is = (
  either-right (test b) (p b) (q b) (either b) is.0,
  λ l there. is.1 l (either-other (test l) (p l) (q l) (either l) there (none l)),
)
joined p q test either (Some a) None is none = (
  either-left (test a) (p a) (q a) (either a) is.0,
  λ l there. is.1 l (either-other (test l) (q l) (p l) (either-swapped p q test either l) there (none l)),
)
joined p q test either (Some a) (Some b) is is' = chosen p q test either a b is is' (comes_first a b) refl

-- the locks that pass a test are on one item
abbrev pub AreOn : ℕ → (Lock → Bool) → Type 0
AreOn x test = (l : Lock) → test l ≡ true → l.item.0 ≡ x

-- of locks on one item there is one first at most
pub one_first : (x : ℕ) (test : Lock → Bool) → AreOn x test → (a b : Option Lock) → IsFirstOf test a → IsFirstOf test b
    → a ≡ b
one_first x test on None None is is' = refl
one_first x test on None (Some b) none is = let no : true ≡ false = sym is.0 ∙ none b in cc
one_first x test on (Some a) None is none = let no : true ≡ false = sym is.0 ∙ none a in cc
one_first x test on (Some a) (Some b) is is' =
    let e = is.1 b is'.0 in
    let f = is'.1 a is.0 in
    ap Some (same_parts a b (on a is.0 ∙ sym (on b is'.0))
    (comes-modes a.tree.0 (mode_rank a.mode) b.tree.0 (mode_rank b.mode) e f)
    (comes-trees a.tree.0 (mode_rank a.mode) b.tree.0 (mode_rank b.mode) e f))

-- the lock alone, if it passes
abbrev alone : (Lock → Bool) → Lock → Option Lock
alone test l = cond (test l) (Some l) None

alone-by : (test : Lock → Bool) (l : Lock) (b : Bool) → test l ≡ b
    → IsFirstOf (λ q. is_eq (lock_order q l) && test q) (cond b (Some l) None)
alone-by test l true e = (
  and_from (is_eq (lock_order l l)) (test l) (itself l) e,
  λ q there. let same = same_lock q l (and_parts (is_eq (lock_order q l)) (test q) there).0 in
      ap (λ (a : Lock). comes_first l a) same ∙ first-itself l,
)
alone-by test l false e = λ q. failed q (is_eq (lock_order q l)) refl
  where
    failed : (q : Lock) (b : Bool) → is_eq (lock_order q l) ≡ b → (b && test q) ≡ false
    failed q true same = ap test (same_lock q l same) ∙ e
    failed q false same = refl

split : (a b c : Bool) → ((a || b) && c) ≡ ((a && c) || (b && c))
split true true true = refl
split true true false = refl
split true false true = refl
split true false false = refl
split false b c = refl

first-by : (test : Lock → Bool) (l : Lock) (b : Bool) (r : Option Lock)
    → first_of (cond b (Some l) None) r ≡ cond b (first_of (Some l) r) r
first-by test l true r = refl
first-by test l false r = refl

-- the first is found
pub first-found : (test : Lock → Bool) (ls : List Lock) → IsFirst test ls (first_where test ls)
first-found test [] = λ q. refl
first-found test (l ∷ ls) =
    let P : Option Lock → Type 0 = λ r. IsFirst test (l ∷ ls) r in
    subst P (first-by test l (test l) (first_where test ls))
    (joined (λ q. is_eq (lock_order q l) && test q) (λ q. has_lock q ls && test q) (λ q. has_lock q (l ∷ ls) && test q)
    (λ q. split (is_eq (lock_order q l)) (has_lock q ls) (test q)) (alone test l) (first_where test ls)
    (alone-by test l (test l) refl) (first-found test ls))

on-item : (t : TreeNo) (x : ItemNo) (m : Mode) (ls : List Lock) → AreOn x.0 (λ q. has_lock q ls && is_in_way t x m q)
on-item t x m ls l there =
    on l.item.0 x.0 _ (and_parts (has_lock l ls) (is_in_way t x m l) there).1
  where
    on : (a b : ℕ) (c : Bool) → (eqb a b && c) ≡ true → a ≡ b
    on a b c is = grind (arith, nat_tests)

-- so what is the first lock in the way is the one that is found
pub in_way : (t : TreeNo) (x : ItemNo) (m : Mode) (ls : List Lock) (r : Option Lock) → IsFirst (is_in_way t x m) ls r
    → r ≡ first_where (is_in_way t x m) ls
in_way t x m ls r is =
    one_first x.0 (λ q. has_lock q ls && is_in_way t x m q) (on-item t x m ls) r (first_where (is_in_way t x m) ls) is
    (first-found (is_in_way t x m) ls)

-- a lock is in the way of a mode if it is another tree's in one of two modes that conflict with it
abbrev IsMetByTwo : TreeNo → ItemNo → Mode → Mode → Mode → Type 0
IsMetByTwo t x m n o = (l : Lock) → is_in_way t x m l ≡ (is_of_other (lock_of t x n) l || is_of_other (lock_of t x o) l)

way-mark : (x l t r : ℕ) (m : Mode)
    → (eqb l x && (not (eqb t r) && modes_conflict Mark m))
    ≡ (((eqb x l && eqb 1 (mode_rank m)) && not (eqb t r)) || ((eqb x l && eqb 2 (mode_rank m)) && not (eqb t r)))
way-mark x l t r Mark = grind (arith, nat_tests)
way-mark x l t r Look = grind (arith, nat_tests)
way-mark x l t r Hold = grind (arith, nat_tests)

way-look : (x l t r : ℕ) (m : Mode)
    → (eqb l x && (not (eqb t r) && modes_conflict Look m))
    ≡ (((eqb x l && eqb 0 (mode_rank m)) && not (eqb t r)) || ((eqb x l && eqb 2 (mode_rank m)) && not (eqb t r)))
way-look x l t r Mark = grind (arith, nat_tests)
way-look x l t r Look = grind (arith, nat_tests)
way-look x l t r Hold = grind (arith, nat_tests)

way-hold : (x l t r : ℕ) (m : Mode)
    → (eqb l x && (not (eqb t r) && modes_conflict Hold m))
    ≡ (((eqb x l && eqb 0 (mode_rank m)) && not (eqb t r))
    || (((eqb x l && eqb 1 (mode_rank m)) && not (eqb t r)) || ((eqb x l && eqb 2 (mode_rank m)) && not (eqb t r))))
way-hold x l t r Mark = grind (arith, nat_tests)
way-hold x l t r Look = grind (arith, nat_tests)
way-hold x l t r Hold = grind (arith, nat_tests)

and_split : (h a b : Bool) (w : Bool) → w ≡ (a || b) → (h && w) ≡ ((h && a) || (h && b))
and_split true a b w e = e
and_split false a b w e = refl

-- the locks in the way of a mode are those of two modes
pub way_of_two : (t : TreeNo) (x : ItemNo) (m n o : Mode) (ls : List Lock) (a b : Option Lock) → IsMetByTwo t x m n o
    → IsFirst (is_of_other (lock_of t x n)) ls a → IsFirst (is_of_other (lock_of t x o)) ls b
    → first_of a b ≡ first_where (is_in_way t x m) ls
way_of_two t x m n o ls a b two is is' =
    in_way t x m ls (first_of a b)
    (joined (λ q. has_lock q ls && is_of_other (lock_of t x n) q) (λ q. has_lock q ls && is_of_other (lock_of t x o) q)
    (λ q. has_lock q ls && is_in_way t x m q)
    (λ q. and_split (has_lock q ls) (is_of_other (lock_of t x n) q) (is_of_other (lock_of t x o) q)
    (is_in_way t x m q) (two q))
    a b is is')

pub way_of_mark : (t : TreeNo) (x : ItemNo) (ls : List Lock) (a b : Option Lock)
    → IsFirst (is_of_other (lock_of t x Look)) ls a → IsFirst (is_of_other (lock_of t x Hold)) ls b
    → first_of a b ≡ first_where (is_in_way t x Mark) ls
way_of_mark t x ls a b =
    way_of_two t x Mark Look Hold ls a b (λ l. way-mark x.0 l.item.0 l.tree.0 t.0 l.mode)

pub way_of_look : (t : TreeNo) (x : ItemNo) (ls : List Lock) (a b : Option Lock)
    → IsFirst (is_of_other (lock_of t x Mark)) ls a → IsFirst (is_of_other (lock_of t x Hold)) ls b
    → first_of a b ≡ first_where (is_in_way t x Look) ls
way_of_look t x ls a b =
    way_of_two t x Look Mark Hold ls a b (λ l. way-look x.0 l.item.0 l.tree.0 t.0 l.mode)

pub way_of_hold : (t : TreeNo) (x : ItemNo) (ls : List Lock) (a b c : Option Lock)
    → IsFirst (is_of_other (lock_of t x Mark)) ls a → IsFirst (is_of_other (lock_of t x Look)) ls b
    → IsFirst (is_of_other (lock_of t x Hold)) ls c
    → first_of a (first_of b c) ≡ first_where (is_in_way t x Hold) ls
way_of_hold t x ls a b c is is' is'' =
    let mark = is_of_other (lock_of t x Mark) in
    let look = is_of_other (lock_of t x Look) in
    let hold = is_of_other (lock_of t x Hold) in
    in_way t x Hold ls (first_of a (first_of b c))
    (joined (λ q. has_lock q ls && mark q) (λ q. has_lock q ls && (look q || hold q))
    (λ q. has_lock q ls && is_in_way t x Hold q)
    (λ q. and_split (has_lock q ls) (mark q) (look q || hold q) (is_in_way t x Hold q)
    (way-hold x.0 q.item.0 q.tree.0 t.0 q.mode)) a (first_of b c) is
    (joined (λ q. has_lock q ls && look q) (λ q. has_lock q ls && hold q) (λ q. has_lock q ls && (look q || hold q))
    (λ q. and_split (has_lock q ls) (look q) (hold q) (look q || hold q) refl) b c is' is''))
