-- Lists in which each thing occurs once, by a test of equality, and who is ahead of whom there; and both after a test.
use Rattle.std.proofs.Common.{◌≡◌, ◌⊎◌, inl, inr, ◌==◌, ◌&&◌, ℕ, Bool, true, false, List, [], ◌∷◌, ◌++◌, refl, sym, ap, ◌∙◌}
use Rattle.std.specs.Prelude.{◌||◌, cond, filter, fold}
use Rattle.std.specs.List.{list_any}
use Rattle.std.proofs.lemmas.Bool.{and_from, and_left, and_right, eqb-true, false_from_ne_true, or_cases, or_from, or_left, or_right, cases_Bool}
use Rattle.std.proofs.lemmas.List.Folds.{list_any-append}
use Rattle.std.proofs.lemmas.Map.Views.{any-filter_same}
use Rattle.tv_base.proofs.Truths.{left_true, right_true, same_test}

-- the test tells equals alone, and each of them
pub record IsEquality {X : Type 0} (same : X → X → Bool) : Type 0 where
  pub sound : (x y : X) → same x y ≡ true → x ≡ y
  pub itself : (x : X) → same x x ≡ true

-- x is in the list, by a test of equality
abbrev pub has : {X : Type 0} → (X → X → Bool) → X → List X → Bool
has same x xs = list_any (λ y. same y x) xs

-- each occurs once
abbrev pub AreOnce : {X : Type 0} → (X → X → Bool) → List X → Type 0
AreOnce same [] = Unit {0}
AreOnce same (x ∷ xs) = (has same x xs ≡ false) × AreOnce same xs

-- a is in the list, and b after it
abbrev pub ahead : {X : Type 0} → (X → X → Bool) → X → X → List X → Bool
ahead same a b [] = false
ahead same a b (x ∷ xs) = (same x a && has same b xs) || ahead same a b xs

-- The tests of numbers and of pairs of numbers.
abbrev pub same_number : ℕ → ℕ → Bool
same_number a b = a == b

pub numbers_equal : IsEquality same_number
numbers_equal = record { sound = eqb-true; itself = same_test }

abbrev pub same_pair : (ℕ × ℕ) → (ℕ × ℕ) → Bool
same_pair a b = (a.0 == b.0) && (a.1 == b.1)

pairs_sound : (a b : ℕ × ℕ) → same_pair a b ≡ true → a ≡ b
pairs_sound a b is =
    let one : a.0 ≡ b.0 = eqb-true a.0 b.0 (left_true (a.0 == b.0) (a.1 == b.1) is) in
    let two : a.1 ≡ b.1 = eqb-true a.1 b.1 (right_true (a.0 == b.0) (a.1 == b.1) is) in
    λ i. (one i, two i)

pub pairs_equal : IsEquality same_pair
pairs_equal = record {
  sound = pairs_sound;
  itself = λ a. and_from (a.0 == a.0) (a.1 == a.1) (same_test a.0) (same_test a.1);
}

-- a test that both holds and doesn't
pub clash : {C : Type 0} (a : Bool) → a ≡ true → a ≡ false → C
clash {C} a is not_so = absurd (cc (is, not_so))

-- two tests of which each holds where the other does
pub same_tests : (a b : Bool) → (a ≡ true → b ≡ true) → (b ≡ true → a ≡ true) → a ≡ b
same_tests true b f g = sym (f refl)
same_tests false true f g = g refl
same_tests false false f g = refl

module _ {O : Type 0} (same : O → O → Bool) (equal : IsEquality same) where
  pub has_append : (x : O) (xs ys : List O) → has same x (xs ++ ys) ≡ (has same x xs || has same x ys)
  has_append x xs ys = list_any-append (λ y. same y x) xs ys

  -- what is there is there by equality
  pub has_same : (x y : O) (ys : List O) → same x y ≡ true → has same x ys ≡ has same y ys
  has_same x y ys is = ap (λ z. has same z ys) (equal.sound x y is)

  pub once_append : (xs ys : List O) → AreOnce same xs → AreOnce same ys
      → ((x : O) → has same x xs ≡ true → has same x ys ≡ false) → AreOnce same (xs ++ ys)
  once_append [] ys one two none = two
  once_append (x ∷ xs) ys one two none = (
    has_append x xs ys
        ∙ or_from (has same x xs) (has same x ys) one.0 (none x (or_left (same x x) (has same x xs) (equal.itself x))),
    once_append xs ys one.1 two (λ z there. none z (or_right (same x z) (has same z xs) there)),
  )

  -- of two, one ahead of the other, both are there
  pub ahead_has : (a b : O) (xs : List O) → ahead same a b xs ≡ true → (has same a xs ≡ true) × (has same b xs ≡ true)
  ahead_has a b [] is = absurd (cc is)
  ahead_has a b (x ∷ xs) is =
      by (same x a) (has same a xs) (same x b) (has same b xs) (ahead_has a b xs) (or_cases (same x a && has same b xs) (ahead same a b xs) is) where
        by : (xa ha xb hb : Bool) → (ahead same a b xs ≡ true → (ha ≡ true) × (hb ≡ true))
            → ((xa && hb) ≡ true) ⊎ (ahead same a b xs ≡ true) → ((xa || ha) ≡ true) × ((xb || hb) ≡ true)
        by xa ha xb hb rest (inl here) = (or_left xa ha (left_true xa hb here), or_right xb hb (right_true xa hb here))
        by xa ha xb hb rest (inr later) = let h = rest later in (or_right xa ha h.0, or_right xb hb h.1)

  not_behind : (a b : O) (xs : List O) → has same b xs ≡ false → ahead same a b xs ≡ false
  not_behind a b xs none = false_from_ne_true (ahead same a b xs) (λ is. clash (has same b xs) (ahead_has a b xs is).1 none)

  one_way_by : (a b x : O) (xs : List O) → has same x xs ≡ false → (ahead same a b xs ≡ true → ahead same b a xs ≡ false)
      → ((same x a && has same b xs) ≡ true) ⊎ (ahead same a b xs ≡ true) → (same x b ≡ true) ⊎ (same x b ≡ false)
      → ahead same b a (x ∷ xs) ≡ false
  one_way_by a b x xs once rest (inl here) (inl is) =
      clash (has same b xs) (right_true (same x a) (has same b xs) here) (sym (has_same x b xs is) ∙ once)
  one_way_by a b x xs once rest (inl here) (inr other) =
      or_from (same x b && has same a xs) (ahead same b a xs) (and_left (same x b) (has same a xs) other)
      (not_behind b a xs (sym (has_same x a xs (left_true (same x a) (has same b xs) here)) ∙ once))
  one_way_by a b x xs once rest (inr later) (inl is) =
      clash (has same b xs) (ahead_has a b xs later).1 (sym (has_same x b xs is) ∙ once)
  one_way_by a b x xs once rest (inr later) (inr other) =
      or_from (same x b && has same a xs) (ahead same b a xs) (and_left (same x b) (has same a xs) other) (rest later)

  -- where each occurs once, one of two is ahead of the other one way round only
  pub one_way : (a b : O) (xs : List O) → AreOnce same xs → ahead same a b xs ≡ true → ahead same b a xs ≡ false
  one_way a b [] once is = absurd (cc is)
  one_way a b (x ∷ xs) once is =
      one_way_by a b x xs once.0 (one_way a b xs once.1) (or_cases (same x a && has same b xs) (ahead same a b xs) is) (cases_Bool (same x b))

  -- what is in the first of two lists is ahead of what is in the second
  pub ahead_append : (a b : O) (xs ys : List O) → has same a xs ≡ true → has same b ys ≡ true → ahead same a b (xs ++ ys) ≡ true
  ahead_append a b [] ys one two = absurd (cc one)
  ahead_append a b (x ∷ xs) ys one two =
      by (same x a) (has same b xs) (has same b ys) (has same b (xs ++ ys)) (ahead same a b (xs ++ ys)) two (has_append b xs ys)
      (λ some. ahead_append a b xs ys some two) (or_cases (same x a) (has same a xs) one) where
        by : (xa bx by_ bz az : Bool) → by_ ≡ true → bz ≡ (bx || by_) → (has same a xs ≡ true → az ≡ true)
            → (xa ≡ true) ⊎ (has same a xs ≡ true) → ((xa && bz) || az) ≡ true
        by xa bx by_ bz az there is rest (inl here) = or_left (xa && bz) az (and_from xa bz here (is ∙ or_right bx by_ there))
        by xa bx by_ bz az there is rest (inr some) = or_right (xa && bz) az (rest some)

  -- and what is ahead in one of them is ahead in both together
  pub ahead_later : (a b : O) (xs ys : List O) → ahead same a b ys ≡ true → ahead same a b (xs ++ ys) ≡ true
  ahead_later a b [] ys is = is
  ahead_later a b (x ∷ xs) ys is = or_right (same x a && has same b (xs ++ ys)) (ahead same a b (xs ++ ys)) (ahead_later a b xs ys is)

  pub ahead_early : (a b : O) (xs ys : List O) → ahead same a b xs ≡ true → ahead same a b (xs ++ ys) ≡ true
  ahead_early a b [] ys is = absurd (cc is)
  ahead_early a b (x ∷ xs) ys is =
      by (same x a) (has same b xs) (has same b ys) (has same b (xs ++ ys)) (ahead same a b (xs ++ ys)) (has_append b xs ys)
      (ahead_early a b xs ys) (or_cases (same x a && has same b xs) (ahead same a b xs) is) where
        by : (xa bx by_ bz az : Bool) → bz ≡ (bx || by_) → (ahead same a b xs ≡ true → az ≡ true)
            → ((xa && bx) ≡ true) ⊎ (ahead same a b xs ≡ true) → ((xa && bz) || az) ≡ true
        by xa bx by_ bz az is rest (inl here) =
            or_left (xa && bz) az (and_from xa bz (left_true xa bx here) (is ∙ or_left bx by_ (right_true xa bx here)))
        by xa bx by_ bz az is rest (inr later) = or_right (xa && bz) az (rest later)

  -- where nothing is, the list is empty
  pub nothing_there : (ys : List O) → ((z : O) → has same z ys ≡ false) → ys ≡ []
  nothing_there [] none = refl
  nothing_there (y ∷ ys) none =
      clash (has same y (y ∷ ys)) (or_left (same y y) (has same y ys) (equal.itself y)) (none y)

-- What passes a test.
module _ {O : Type 0} (same : O → O → Bool) (equal : IsEquality same) (p : O → Bool) where
  pub has_filter : (a : O) (xs : List O) → has same a (filter p xs) ≡ (p a && has same a xs)
  has_filter a xs = any-filter_same (λ y. same y a) p (p a) (λ y is. ap p (equal.sound y a is)) xs

  pub has_kept : (a : O) (xs : List O) → has same a (filter p xs) ≡ true → (has same a xs ≡ true) × (p a ≡ true)
  has_kept a xs is =
      let both = sym (has_filter a xs) ∙ is in (right_true (p a) (has same a xs) both, left_true (p a) (has same a xs) both)

  pub kept_has : (a : O) (xs : List O) → has same a xs ≡ true → p a ≡ true → has same a (filter p xs) ≡ true
  kept_has a xs is pa = has_filter a xs ∙ and_from (p a) (has same a xs) pa is

  once_by : (x : O) (rest : List O) (b : Bool) → has same x rest ≡ false → AreOnce same rest → AreOnce same (cond b (x ∷ rest) rest)
  once_by x rest true none once = (none, once)
  once_by x rest false none once = once

  pub once_kept : (xs : List O) → AreOnce same xs → AreOnce same (filter p xs)
  once_kept [] once = tt
  once_kept (x ∷ xs) once =
      once_by x (filter p xs) (p x) (has_filter x xs ∙ and_right (p x) (has same x xs) once.0) (once_kept xs once.1)

  ahead_kept_by : (a b x : O) (rest xs : List O) (c : Bool) → (ahead same a b rest ≡ true → ahead same a b xs ≡ true)
      → (has same b rest ≡ true → has same b xs ≡ true)
      → ahead same a b (cond c (x ∷ rest) rest) ≡ true → ahead same a b (x ∷ xs) ≡ true
  ahead_kept_by a b x rest xs false f g is = or_right (same x a && has same b xs) (ahead same a b xs) (f is)
  ahead_kept_by a b x rest xs true f g is = by (or_cases (same x a && has same b rest) (ahead same a b rest) is) where
    by : ((same x a && has same b rest) ≡ true) ⊎ (ahead same a b rest ≡ true) → ahead same a b (x ∷ xs) ≡ true
    by (inl here) =
        or_left (same x a && has same b xs) (ahead same a b xs)
        (and_from (same x a) (has same b xs) (left_true (same x a) (has same b rest) here) (g (right_true (same x a) (has same b rest) here)))
    by (inr later) = or_right (same x a && has same b xs) (ahead same a b xs) (f later)

  pub ahead_kept : (a b : O) (xs : List O) → ahead same a b (filter p xs) ≡ true → ahead same a b xs ≡ true
  ahead_kept a b [] is = absurd (cc is)
  ahead_kept a b (x ∷ xs) is =
      ahead_kept_by a b x (filter p xs) xs (p x) (ahead_kept a b xs) (λ there. (has_kept b xs there).0) is

  kept_ahead_by : (a b x : O) (rest : List O) (c hb ab : Bool) → p x ≡ c → p a ≡ true
      → (hb ≡ true → has same b rest ≡ true) → (ab ≡ true → ahead same a b rest ≡ true)
      → ((same x a && hb) ≡ true) ⊎ (ab ≡ true) → ahead same a b (cond c (x ∷ rest) rest) ≡ true
  kept_ahead_by a b x rest true hb ab e pa f g (inl here) =
      or_left (same x a && has same b rest) (ahead same a b rest)
      (and_from (same x a) (has same b rest) (left_true (same x a) hb here) (f (right_true (same x a) hb here)))
  kept_ahead_by a b x rest true hb ab e pa f g (inr later) = or_right (same x a && has same b rest) (ahead same a b rest) (g later)
  kept_ahead_by a b x rest false hb ab e pa f g (inl here) =
      clash (p x) (ap p (equal.sound x a (left_true (same x a) hb here)) ∙ pa) e
  kept_ahead_by a b x rest false hb ab e pa f g (inr later) = g later

  pub kept_ahead : (a b : O) (xs : List O) → ahead same a b xs ≡ true → p a ≡ true → p b ≡ true → ahead same a b (filter p xs) ≡ true
  kept_ahead a b [] is pa pb = absurd (cc is)
  kept_ahead a b (x ∷ xs) is pa pb =
      kept_ahead_by a b x (filter p xs) (p x) (has same b xs) (ahead same a b xs) refl pa
      (λ there. kept_has b xs there pb) (λ later. kept_ahead a b xs later pa pb) (or_cases (same x a && has same b xs) (ahead same a b xs) is)

-- what doesn't pass the test and changes nothing may be left out of a fold
module _ {O : Type 0} (p : O → Bool) where
  fold_kept_by : {S : Type 0} (act : S → O → S) (s : S) (x : O) (xs rest : List O) (b : Bool) → p x ≡ b
      → ((z : O) → p z ≡ false → (u : S) → act u z ≡ u) → ((u : S) → fold act u xs ≡ fold act u rest)
      → fold act s (x ∷ xs) ≡ fold act s (cond b (x ∷ rest) rest)
  fold_kept_by act s x xs rest true e still f = f (act s x)
  fold_kept_by act s x xs rest false e still f = ap (λ u. fold act u xs) (still x e s) ∙ f s

  pub fold_kept : {S : Type 0} (act : S → O → S) → ((z : O) → p z ≡ false → (u : S) → act u z ≡ u)
      → (xs : List O) (s : S) → fold act s xs ≡ fold act s (filter p xs)
  fold_kept act still [] s = refl
  fold_kept act still (x ∷ xs) s = fold_kept_by act s x xs (filter p xs) (p x) refl still (fold_kept act still xs)
