-- What a part of an ordered set says of the locks in it.
use Rattle.std.proofs.Common.{◌≡◌, ℕ, ◌<◌, ◌≤◌, Bool, true, false, not, ◌&&◌, ◌||◌, eqb, ltb, leb, List, [], ◌∷◌, refl, subst, sym, ◌∙◌, arith, Option, Some, None, ◌⊎◌, inl, inr}
use Rattle.std.specs.declared.cmp.Ordering.{Ordering}
use Rattle.std.specs.declared.cmp.Ordering.TheVariants.{Less, Equal, Greater}
use Rattle.std.specs.declared.ops.Bound.TheVariants.{Included, Excluded, Unbounded}
use Rattle.std.specs.BTreeSet.{IsKeyRangeOf}
use Rattle.std.specs.Ordering.{nat_cmp, ordering_then, is_gt}
use Rattle.std.proofs.lemmas.Bool.{and_from, and_parts, both_ways, cases_lt, eqb-false, eqb-true, false_from_ne_true, lt-ltb, ltb-true, not-true}
use Rattle.std.proofs.lemmas.Bool.Decides.{nat_tests}
use Rattle.std.proofs.lemmas.Cmp.{ranked}
use Rattle.tv_base.specs.declared.numbers.TreeNo.{TreeNo}
use Rattle.nc_locks.specs.declared.modes.Lock.{Lock}
use Rattle.nc_locks.specs.declared.modes.Mode.TheVariants.{Mark}
use Rattle.nc_locks.specs.declared.owned.Owned.{Owned}
use Rattle.nc_locks.specs.Modes.{mode_rank}
use Rattle.nc_locks.specs.Locks.{comes_first, has_lock, lock_order}
use Rattle.nc_locks.proofs.Firsts.{joined}
use Rattle.nc_locks.specs.inside.Found.{AreMirrored, IsFirst, IsLockOf, has_owned, is_of_greater, is_of_lesser, is_of_other, owned, owned_order, same_place}

-- three numbers are below three others, or up to them, by their order
pub data Below (x y m n s t : ℕ) : Type 0 where
  by_first : x < y → Below x y m n s t
  by_second : x ≡ y → m < n → Below x y m n s t
  by_third : x ≡ y → m ≡ n → s < t → Below x y m n s t

pub data UpTo (x y m n s t : ℕ) : Type 0 where
  by_first : x < y → UpTo x y m n s t
  by_second : x ≡ y → m < n → UpTo x y m n s t
  by_third : x ≡ y → m ≡ n → s ≤ t → UpTo x y m n s t

abbrev three : ℕ → ℕ → ℕ → ℕ → ℕ → ℕ → Ordering
three x y m n s t = ordering_then (nat_cmp x y) (ordering_then (nat_cmp m n) (nat_cmp s t))

pub below : (x y m n s t : ℕ) → three x y m n s t ≡ Less → Below x y m n s t
below x y m n s t e = first (nat_cmp x y) refl e
  where
    third : (r : Ordering) → nat_cmp s t ≡ r → x ≡ y → m ≡ n → r ≡ Less → Below x y m n s t
    third r c a b e = by_third a b (ranked s t Less (sym (c ∙ e)))

    second : (r : Ordering) → nat_cmp m n ≡ r → x ≡ y → ordering_then r (nat_cmp s t) ≡ Less → Below x y m n s t
    second Less c a e = by_second a (ranked m n Less (sym c))
    second Equal c a e = third (nat_cmp s t) refl a (ranked m n Equal (sym c)) e
    second Greater c a e = let no : Greater ≡ Less = e in cc

    first : (r : Ordering) → nat_cmp x y ≡ r → ordering_then r (ordering_then (nat_cmp m n) (nat_cmp s t)) ≡ Less
        → Below x y m n s t
    first Less c e = by_first (ranked x y Less (sym c))
    first Equal c e = second (nat_cmp m n) refl (ranked x y Equal (sym c)) e
    first Greater c e = let no : Greater ≡ Less = e in cc

pub up_to : (x y m n s t : ℕ) → is_gt (three x y m n s t) ≡ false → UpTo x y m n s t
up_to x y m n s t e = first (nat_cmp x y) refl e
  where
    third : (r : Ordering) → nat_cmp s t ≡ r → x ≡ y → m ≡ n → is_gt r ≡ false → UpTo x y m n s t
    third Less c a b e = let less = ranked s t Less (sym c) in by_third a b (omega arith)
    third Equal c a b e = let same = ranked s t Equal (sym c) in by_third a b (omega arith)
    third Greater c a b e = let no : true ≡ false = e in cc

    second : (r : Ordering) → nat_cmp m n ≡ r → x ≡ y → is_gt (ordering_then r (nat_cmp s t)) ≡ false → UpTo x y m n s t
    second Less c a e = by_second a (ranked m n Less (sym c))
    second Equal c a e = third (nat_cmp s t) refl a (ranked m n Equal (sym c)) e
    second Greater c a e = let no : true ≡ false = e in cc

    first : (r : Ordering) → nat_cmp x y ≡ r
        → is_gt (ordering_then r (ordering_then (nat_cmp m n) (nat_cmp s t))) ≡ false → UpTo x y m n s t
    first Less c e = by_first (ranked x y Less (sym c))
    first Equal c e = second (nat_cmp m n) refl (ranked x y Equal (sym c)) e
    first Greater c e = let no : true ≡ false = e in cc

equal-cmp : (x y : ℕ) → x ≡ y → nat_cmp x y ≡ Equal
equal-cmp x y e = grind (arith, nat_tests)

less-cmp : (x y : ℕ) → x < y → nat_cmp x y ≡ Less
less-cmp x y e = grind (arith, nat_tests)

up_to-cmp : (x y : ℕ) → x ≤ y → is_gt (nat_cmp x y) ≡ false
up_to-cmp x y e = grind (arith, nat_tests)

third-less : (x y m n s t : ℕ) → x ≡ y → m ≡ n → s < t → three x y m n s t ≡ Less
third-less x y m n s t a b c = rw (equal-cmp x y a, equal-cmp m n b) (less-cmp s t c)

third-up_to : (x y m n s t : ℕ) → x ≡ y → m ≡ n → s ≤ t → is_gt (three x y m n s t) ≡ false
third-up_to x y m n s t a b c = rw (equal-cmp x y a, equal-cmp m n b) (up_to-cmp s t c)

-- what the tests of a lock's place say
pub record IsAt (a b : Lock) : Type 0 where
  pub item : a.item.0 ≡ b.item.0
  pub mode : mode_rank a.mode ≡ mode_rank b.mode

at-place : (a b : Lock) → same_place a b ≡ true → IsAt a b
at-place a b e =
    let same = numbers a.item.0 b.item.0 (mode_rank a.mode) (mode_rank b.mode) e in
    record { item = same.0; mode = same.1 }
  where
    numbers : (x y m n : ℕ) → (eqb x y && eqb m n) ≡ true → (x ≡ y) × (m ≡ n)
    numbers x y m n e = (grind (arith, nat_tests), grind (arith, nat_tests))

place-at : (a b : Lock) → a.item.0 ≡ b.item.0 → mode_rank a.mode ≡ mode_rank b.mode → same_place a b ≡ true
place-at a b x m = grind (arith, nat_tests)

-- the first place for a lock, if another one is there
abbrev pub lowest : Lock → Lock
lowest own = record { item = own.item; mode = own.mode; tree = record { 0 = 0 } }

in-lesser : (own q : Lock) → is_of_lesser own q ≡ true
    → (is_gt (lock_order (lowest own) q) ≡ false) × (lock_order q own ≡ Less)
in-lesser own q e =
    let parts = and_parts (same_place own q) (ltb q.tree.0 own.tree.0) e in
    let at = at-place own q parts.0 in
    let less = ltb-true q.tree.0 own.tree.0 parts.1 in (
      third-up_to own.item.0 q.item.0 (mode_rank own.mode) (mode_rank q.mode) 0 q.tree.0 at.item at.mode (omega arith),
      third-less q.item.0 own.item.0 (mode_rank q.mode) (mode_rank own.mode) q.tree.0 own.tree.0 (sym at.item)
          (sym at.mode) less,
    )

of-lesser : (own l : Lock) → is_gt (lock_order (lowest own) l) ≡ false → lock_order l own ≡ Less
    → is_of_lesser own l ≡ true
of-lesser own l from to =
    by (up_to own.item.0 l.item.0 (mode_rank own.mode) (mode_rank l.mode) 0 l.tree.0 from)
    (below l.item.0 own.item.0 (mode_rank l.mode) (mode_rank own.mode) l.tree.0 own.tree.0 to)
  where
    by : UpTo own.item.0 l.item.0 (mode_rank own.mode) (mode_rank l.mode) 0 l.tree.0
        → Below l.item.0 own.item.0 (mode_rank l.mode) (mode_rank own.mode) l.tree.0 own.tree.0
        → is_of_lesser own l ≡ true
    by (by_first a) (by_first b) = absurd (omega (arith, a, b))
    by (by_first a) (by_second b c) = absurd (omega (arith, a, b))
    by (by_first a) (by_third b c d) = absurd (omega (arith, a, b))
    by (by_second a b) (by_first c) = absurd (omega (arith, a, c))
    by (by_second a b) (by_second c d) = absurd (omega (arith, b, d))
    by (by_second a b) (by_third c d e) = absurd (omega (arith, b, d))
    by (by_third a b c) (by_first d) = absurd (omega (arith, a, d))
    by (by_third a b c) (by_second d e) = absurd (omega (arith, b, e))
    by (by_third a b c) (by_third d e f) =
        and_from (same_place own l) (ltb l.tree.0 own.tree.0) (place-at own l a b) (lt-ltb l.tree.0 own.tree.0 f)

in-greater : (own q : Lock) → is_of_greater own q ≡ true → lock_order own q ≡ Less
in-greater own q e =
    let parts = and_parts (same_place own q) (ltb own.tree.0 q.tree.0) e in
    let at = at-place own q parts.0 in
    third-less own.item.0 q.item.0 (mode_rank own.mode) (mode_rank q.mode) own.tree.0 q.tree.0 at.item at.mode
    (ltb-true own.tree.0 q.tree.0 parts.1)

of-greater : (own l : Lock) → same_place own l ≡ true → lock_order own l ≡ Less → is_of_greater own l ≡ true
of-greater own l here from =
    by (at-place own l here) (below own.item.0 l.item.0 (mode_rank own.mode)
    (mode_rank l.mode) own.tree.0 l.tree.0 from)
  where
    by : IsAt own l → Below own.item.0 l.item.0 (mode_rank own.mode) (mode_rank l.mode) own.tree.0 l.tree.0
        → is_of_greater own l ≡ true
    by at (by_first a) = absurd (omega (arith, a, at.item))
    by at (by_second a b) = absurd (omega (arith, b, at.mode))
    by at (by_third a b c) = and_from (same_place own l) (ltb own.tree.0 l.tree.0) here (lt-ltb own.tree.0 l.tree.0 c)

comes-up_to : (t m u n : ℕ) → t ≤ u → m ≡ n → (ltb t u || (eqb t u && leb m n)) ≡ true
comes-up_to t m u n a b = grind (arith, nat_tests)

-- of two locks at one place the lesser comes first
first-at : (own l q : Lock) → same_place own l ≡ true → same_place own q ≡ true → is_gt (lock_order l q) ≡ false
    → comes_first l q ≡ true
first-at own l q here there up =
    by (at-place own l here) (at-place own q there)
    (up_to l.item.0 q.item.0 (mode_rank l.mode) (mode_rank q.mode) l.tree.0 q.tree.0 up)
  where
    by : IsAt own l → IsAt own q → UpTo l.item.0 q.item.0 (mode_rank l.mode) (mode_rank q.mode) l.tree.0 q.tree.0
        → comes_first l q ≡ true
    by at at' (by_first a) = absurd (omega (arith, a, at.item, at'.item))
    by at at' (by_second a b) = absurd (omega (arith, b, at.mode, at'.mode))
    by at at' (by_third a b c) = comes-up_to l.tree.0 (mode_rank l.mode) q.tree.0 (mode_rank q.mode) c b

-- what is behind a lock and up to another at the same place is at this place
at-between : (own l q : Lock) → same_place own q ≡ true → lock_order own l ≡ Less → is_gt (lock_order l q) ≡ false
    → same_place own l ≡ true
at-between own l q there from up =
    by (at-place own q there)
    (below own.item.0 l.item.0 (mode_rank own.mode) (mode_rank l.mode) own.tree.0 l.tree.0 from)
    (up_to l.item.0 q.item.0 (mode_rank l.mode) (mode_rank q.mode) l.tree.0 q.tree.0 up)
  where
    by : IsAt own q → Below own.item.0 l.item.0 (mode_rank own.mode) (mode_rank l.mode) own.tree.0 l.tree.0
        → UpTo l.item.0 q.item.0 (mode_rank l.mode) (mode_rank q.mode) l.tree.0 q.tree.0 → same_place own l ≡ true
    by at (by_first a) (by_first b) = absurd (omega (arith, a, b, at.item))
    by at (by_first a) (by_second b c) = absurd (omega (arith, a, b, at.item))
    by at (by_first a) (by_third b c d) = absurd (omega (arith, a, b, at.item))
    by at (by_second a b) (by_first c) = absurd (omega (arith, a, c, at.item))
    by at (by_second a b) (by_second c d) = absurd (omega (arith, b, d, at.mode))
    by at (by_second a b) (by_third c d e) = absurd (omega (arith, b, d, at.mode))
    by at (by_third a b c) rest = place-at own l a b

no_more : (test : Lock → Bool) (ls : List Lock) → ((q : Lock) → has_lock q ls ≡ true → test q ≡ true → ⊥)
    → IsFirst test ls None
no_more test ls none = λ q.
    false_from_ne_true (has_lock q ls && test q)
    (λ there. let parts = and_parts (has_lock q ls) (test q) there in none q parts.0 parts.1)

one_more : (test : Lock → Bool) (ls : List Lock) (l : Lock) → has_lock l ls ≡ true → test l ≡ true
    → ((q : Lock) → has_lock q ls ≡ true → test q ≡ true → comes_first l q ≡ true) → IsFirst test ls (Some l)
one_more test ls l here passes least = (
  and_from (has_lock l ls) (test l) here passes,
  λ q there. let parts = and_parts (has_lock q ls) (test q) there in least q parts.0 parts.1,
)

-- the part from the first place to a lock has the locks of lesser trees
abbrev pub IsLesserPart : Lock → List Lock → List Lock → Type 0
IsLesserPart own ls part = IsKeyRangeOf lock_order (Included (lowest own)) (Excluded own) (record { keys = ls }) part

pub none_lesser : (own : Lock) (ls part : List Lock) → IsLesserPart own ls part → part ≡ []
    → IsFirst (is_of_lesser own) ls None
none_lesser own ls part is empty =
    no_more (is_of_lesser own) ls
    (λ q here passes. both_ways (has_lock q ls) (is.5 empty q (in-lesser own q passes)) here)

pub first_lesser : (own : Lock) (ls part : List Lock) (l : Lock) (rest : List Lock) → IsLesserPart own ls part
    → part ≡ l ∷ rest → IsFirst (is_of_lesser own) ls (Some l)
first_lesser own ls part l rest is starts =
    let P : List Lock → Type 0 = λ part. IsLesserPart own ls part in
    let is' = subst P starts is in
    let passes = of-lesser own l is'.1.0.0 is'.1.0.1 in
    one_more (is_of_lesser own) ls l is'.1.1 passes
    (λ q here passes'. first-at own l q (and_parts (same_place own l) (ltb l.tree.0 own.tree.0) passes).0
    (and_parts (same_place own q) (ltb q.tree.0 own.tree.0) passes').0 (is'.2 q (in-lesser own q passes') here))

-- the part behind a lock has the locks of greater trees
abbrev pub IsGreaterPart : Lock → List Lock → List Lock → Type 0
IsGreaterPart own ls part = IsKeyRangeOf lock_order (Excluded own) Unbounded (record { keys = ls }) part

pub none_greater : (own : Lock) (ls part : List Lock) → IsGreaterPart own ls part → part ≡ []
    → IsFirst (is_of_greater own) ls None
none_greater own ls part is empty =
    no_more (is_of_greater own) ls
    (λ q here passes. both_ways (has_lock q ls) (is.5 empty q (in-greater own q passes, tt)) here)

pub first_greater : (own : Lock) (ls part : List Lock) (l : Lock) (rest : List Lock) → IsGreaterPart own ls part
    → part ≡ l ∷ rest → same_place own l ≡ true → IsFirst (is_of_greater own) ls (Some l)
first_greater own ls part l rest is starts at =
    let P : List Lock → Type 0 = λ part. IsGreaterPart own ls part in
    let is' = subst P starts is in
    one_more (is_of_greater own) ls l is'.1.1 (of-greater own l at is'.1.0.0)
    (λ q here passes. first-at own l q at (and_parts (same_place own q) (ltb own.tree.0 q.tree.0) passes).0
    (is'.2 q (in-greater own q passes, tt) here))

pub other_greater : (own : Lock) (ls part : List Lock) (l : Lock) (rest : List Lock) → IsGreaterPart own ls part
    → part ≡ l ∷ rest → same_place own l ≡ false → IsFirst (is_of_greater own) ls None
other_greater own ls part l rest is starts off =
    let P : List Lock → Type 0 = λ part. IsGreaterPart own ls part in
    let is' = subst P starts is in
    no_more (is_of_greater own) ls
    (λ q here passes. both_ways (same_place own l) off
    (at-between own l q (and_parts (same_place own q) (ltb own.tree.0 q.tree.0) passes).0 is'.1.0.0
    (is'.2 q (in-greater own q passes, tt) here)))

other-lesser : (p : Bool) (t u : ℕ) → (p && ltb t u) ≡ true → (p && not (eqb t u)) ≡ true
other-lesser p t u e = grind (arith, nat_tests)

comes-over : (t u v m n : ℕ) → t < u → u < v → (ltb t v || (eqb t v && leb m n)) ≡ true
comes-over t u v m n a b = grind (arith, nat_tests)

above-apart : (a b : ℕ) → b ≤ a → (a ≡ b → ⊥) → b < a
above-apart a b le apart = omega arith

-- if a tree is lesser, the first of these is the first of all others
pub first_other : (own : Lock) (ls : List Lock) (l : Lock) → IsFirst (is_of_lesser own) ls (Some l)
    → IsFirst (is_of_other own) ls (Some l)
first_other own ls l is =
    let parts = and_parts (has_lock l ls) (is_of_lesser own l) is.0 in
    let less = ltb-true l.tree.0 own.tree.0 (and_parts (same_place own l) (ltb l.tree.0 own.tree.0) parts.1).1 in
    one_more (is_of_other own) ls l parts.0 (other-lesser (same_place own l) l.tree.0 own.tree.0 parts.1)
    (λ q here passes. by q less here (and_parts (same_place own q) (not (eqb q.tree.0 own.tree.0)) passes)
    (cases_lt q.tree.0 own.tree.0))
  where
    by : (q : Lock) → l.tree.0 < own.tree.0 → has_lock q ls ≡ true
        → (same_place own q ≡ true) × (not (eqb q.tree.0 own.tree.0) ≡ true)
        → (q.tree.0 < own.tree.0) ⊎ (own.tree.0 ≤ q.tree.0) → comes_first l q ≡ true
    by q less here at (inl lesser) =
        is.1 q (and_from (has_lock q ls) (is_of_lesser own q) here
        (and_from (same_place own q) (ltb q.tree.0 own.tree.0) at.0 (lt-ltb q.tree.0 own.tree.0 lesser)))
    by q less here at (inr from) =
        let apart = eqb-false q.tree.0 own.tree.0 (not-true (eqb q.tree.0 own.tree.0) at.1) in
        comes-over l.tree.0 own.tree.0 q.tree.0 (mode_rank l.mode) (mode_rank q.mode) less
        (above-apart q.tree.0 own.tree.0 from apart)

either-side : (p : Bool) (t u : ℕ) → (p && not (eqb t u)) ≡ ((p && ltb t u) || (p && ltb u t))
either-side p t u = grind (arith, nat_tests)

both-sides : (h a b w : Bool) → w ≡ (a || b) → (h && w) ≡ ((h && a) || (h && b))
both-sides true a b w e = e
both-sides false a b w e = refl

-- if none is, it is the first of those of greater trees
pub first_above : (own : Lock) (ls : List Lock) (r : Option Lock) → IsFirst (is_of_lesser own) ls None
    → IsFirst (is_of_greater own) ls r → IsFirst (is_of_other own) ls r
first_above own ls r none is =
    joined (λ q. has_lock q ls && is_of_lesser own q) (λ q. has_lock q ls && is_of_greater own q)
    (λ q. has_lock q ls && is_of_other own q)
    (λ q. both-sides (has_lock q ls) (is_of_lesser own q) (is_of_greater own q) (is_of_other own q)
    (either-side (same_place own q) q.tree.0 own.tree.0)) None r none is

-- the part from a tree's first place on
abbrev pub lowest_of : TreeNo → Owned
lowest_of t = record { tree = t; item = record { 0 = 0 }; mode = Mark }

abbrev pub IsTreePart : TreeNo → List Owned → List Owned → Type 0
IsTreePart t os part = IsKeyRangeOf owned_order (Included (lowest_of t)) Unbounded (record { keys = os }) part

zero-up_to : (n : ℕ) → 0 ≤ n
zero-up_to n = omega arith

in-tree : (t : TreeNo) (o : Owned) → o.tree.0 ≡ t.0 → is_gt (owned_order (lowest_of t) o) ≡ false
in-tree t o same =
    rw (equal-cmp t.0 o.tree.0 (sym same)) (rest 0 o.item.0 0 (mode_rank o.mode) (zero-up_to o.item.0)
    (zero-up_to (mode_rank o.mode)))
  where
    rest : (x y m n : ℕ) → x ≤ y → m ≤ n → is_gt (ordering_then (nat_cmp x y) (nat_cmp m n)) ≡ false
    rest x y m n a b =
        elim (cases_lt x y) [
          | inl less ↦ rw (less-cmp x y less) refl
          | inr back ↦ let same : x ≡ y = omega arith in rw (equal-cmp x y same) (up_to-cmp m n b)
        ]

tree-between : (t : TreeNo) (o q : Owned) → is_gt (owned_order (lowest_of t) o) ≡ false
    → is_gt (owned_order o q) ≡ false → q.tree.0 ≡ t.0 → o.tree.0 ≡ t.0
tree-between t o q from up same =
    by (up_to t.0 o.tree.0 0 o.item.0 0 (mode_rank o.mode) from)
    (up_to o.tree.0 q.tree.0 o.item.0 q.item.0 (mode_rank o.mode) (mode_rank q.mode) up)
  where
    by : UpTo t.0 o.tree.0 0 o.item.0 0 (mode_rank o.mode)
        → UpTo o.tree.0 q.tree.0 o.item.0 q.item.0 (mode_rank o.mode) (mode_rank q.mode) → o.tree.0 ≡ t.0
    by (by_first a) (by_first b) = absurd (omega (arith, a, b, same))
    by (by_first a) (by_second b c) = absurd (omega (arith, a, b, same))
    by (by_first a) (by_third b c d) = absurd (omega (arith, a, b, same))
    by (by_second a b) rest = sym a
    by (by_third a b c) rest = sym a

pub no_lock : (t : TreeNo) (ls : List Lock) (os part : List Owned) → AreMirrored ls os → IsTreePart t os part
    → part ≡ []
    → IsLockOf t ls None
no_lock t ls os part mirror is empty = λ q here.
    false_from_ne_true (eqb q.tree.0 t.0)
    (λ there. both_ways (has_owned (owned q) os) (is.5 empty (owned q) (
      in-tree t (owned q)
          (eqb-true q.tree.0 t.0 there),
      tt,
    ))
    (mirror.same q ∙ here))

pub one_lock : (t : TreeNo) (ls : List Lock) (os part : List Owned) (o : Owned) (rest : List Owned) → AreMirrored ls os
    → IsTreePart t os part → part ≡ o ∷ rest → o.tree.0 ≡ t.0
    → IsLockOf t ls (Some (record { item = o.item; mode = o.mode; tree = t }))
one_lock t ls os part o rest mirror is starts same =
    let P : List Owned → Type 0 = λ part. IsTreePart t os part in
    let is' = subst P starts is in
    let l : Lock = record { item = o.item; mode = o.mode; tree = t } in
    let path : o ≡ owned l = λ i. record { tree = record { 0 = same i }; item = o.item; mode = o.mode } in
    let Q : Owned → Type 0 = λ o. has_owned o os ≡ true in
    (sym (mirror.same l) ∙ subst Q path is'.1.1, refl)

pub other_tree : (t : TreeNo) (ls : List Lock) (os part : List Owned) (o : Owned) (rest : List Owned)
    → AreMirrored ls os
    → IsTreePart t os part → part ≡ o ∷ rest → (o.tree.0 ≡ t.0 → ⊥) → IsLockOf t ls None
other_tree t ls os part o rest mirror is starts apart =
    let P : List Owned → Type 0 = λ part. IsTreePart t os part in
    let is' = subst P starts is in
    λ q here. false_from_ne_true (eqb q.tree.0 t.0)
    (λ there. apart (tree-between t o (owned q) is'.1.0.0
    (is'.2 (owned q) (in-tree t (owned q) (eqb-true q.tree.0 t.0 there), tt) (mirror.same q ∙ here))
    (eqb-true q.tree.0 t.0 there)))
