-- What is in a list at a position, of what passes a test and of acts.
use Rattle.std.proofs.Common.{◌≡◌, ◌⊎◌, inl, inr, ◌==◌, ◌&&◌, ℕ, zero, suc, ◌<◌, ◌≤◌, Bool, true, false, List, [], ◌∷◌, refl, sym, ap, ◌∙◌, arith, Some, take, drop}
use Rattle.std.specs.Prelude.{slice_get}
use Rattle.std.specs.List.{list_any}
use Rattle.std.proofs.lemmas.Bool.{cases_lt, eqb-true, or_cases, or_left, or_right}
use Rattle.letter_types.specs.declared.acts.Act.{Act}
use Rattle.tv_base.proofs.Truths.{left_true, right_true}
use Rattle.board_rules.specs.Histories.{Place}
use Rattle.board_rules.proofs.Once.{clash}

-- something below position n passes
pub record Found {X : Type 0} (test : X → Bool) (xs : List X) (n : ℕ) : Type 0 where
  pub place : ℕ
  pub below : place < n
  pub item : X
  pub is : slice_get xs place ≡ Some item
  pub passes : test item ≡ true

-- something from position n on passes
pub record FoundFrom {X : Type 0} (test : X → Bool) (xs : List X) (n : ℕ) : Type 0 where
  pub place : ℕ
  pub from : n ≤ place
  pub item : X
  pub is : slice_get xs place ≡ Some item
  pub passes : test item ≡ true

found_by : {X : Type 0} (test : X → Bool) (x : X) (xs : List X) (n : ℕ) → (list_any test (take n xs) ≡ true → Found test xs n)
    → (test x ≡ true) ⊎ (list_any test (take n xs) ≡ true) → Found test (x ∷ xs) (suc n)
found_by test x xs n rest (inl here) = record { place = 0; below = omega arith; item = x; is = refl; passes = here }
found_by test x xs n rest (inr later) =
    let f = rest later in
    record { place = suc f.place; below = omega (arith, f.below); item = f.item; is = f.is; passes = f.passes }

pub found : {X : Type 0} (test : X → Bool) (xs : List X) (n : ℕ) → list_any test (take n xs) ≡ true → Found test xs n
found test [] zero is = absurd (cc is)
found test [] (suc n) is = absurd (cc is)
found test (x ∷ xs) zero is = absurd (cc is)
found test (x ∷ xs) (suc n) is = found_by test x xs n (found test xs n) (or_cases (test x) (list_any test (take n xs)) is)

pub found_from : {X : Type 0} (test : X → Bool) (xs : List X) (n : ℕ) → list_any test (drop n xs) ≡ true → FoundFrom test xs n
found_from test [] zero is = absurd (cc is)
found_from test [] (suc n) is = absurd (cc is)
found_from {X} test (x ∷ xs) zero is = by (found_from test xs 0) (or_cases (test x) (list_any test xs) is) where
  by : (list_any test xs ≡ true → FoundFrom test xs 0) → (test x ≡ true) ⊎ (list_any test xs ≡ true) → FoundFrom test (x ∷ xs) 0
  by rest (inl here) = record { place = 0; from = omega arith; item = x; is = refl; passes = here }
  by rest (inr later) = let f = rest later in
      record { place = suc f.place; from = omega arith; item = f.item; is = f.is; passes = f.passes }
found_from test (x ∷ xs) (suc n) is =
    let f = found_from test xs n is in
    record { place = suc f.place; from = omega (arith, f.from); item = f.item; is = f.is; passes = f.passes }

pub found_all : {X : Type 0} (test : X → Bool) (xs : List X) → list_any test xs ≡ true → FoundFrom test xs 0
found_all test xs is = found_from test xs 0 is

pub there : {X : Type 0} (test : X → Bool) (xs : List X) (i n : ℕ) (y : X) → slice_get xs i ≡ Some y → test y ≡ true → i < n
    → list_any test (take n xs) ≡ true
there test [] i n y is passes lt = absurd (cc is)
there test (x ∷ xs) i zero y is passes lt = absurd (omega (arith, lt))
there test (x ∷ xs) zero (suc n) y is passes lt =
    let same : x ≡ y = cc is in or_left (test x) (list_any test (take n xs)) (ap test same ∙ passes)
there test (x ∷ xs) (suc i) (suc n) y is passes lt =
    or_right (test x) (list_any test (take n xs)) (there test xs i n y is passes (omega (arith, lt)))

pub there_from : {X : Type 0} (test : X → Bool) (xs : List X) (i n : ℕ) (y : X) → slice_get xs i ≡ Some y → test y ≡ true → n ≤ i
    → list_any test (drop n xs) ≡ true
there_from test [] i n y is passes le = absurd (cc is)
there_from test (x ∷ xs) zero zero y is passes le =
    let same : x ≡ y = cc is in or_left (test x) (list_any test xs) (ap test same ∙ passes)
there_from test (x ∷ xs) (suc i) zero y is passes le =
    or_right (test x) (list_any test xs) (there_from test xs i zero y is passes (omega arith))
there_from test (x ∷ xs) zero (suc n) y is passes le = absurd (omega (arith, le))
there_from test (x ∷ xs) (suc i) (suc n) y is passes le = there_from test xs i n y is passes (omega (arith, le))

pub there_all : {X : Type 0} (test : X → Bool) (xs : List X) (i : ℕ) (y : X) → slice_get xs i ≡ Some y → test y ≡ true
    → list_any test xs ≡ true
there_all test xs i y is passes = there_from test xs i 0 y is passes (omega arith)

-- what doesn't pass below n isn't there
pub not_below : {X : Type 0} (test : X → Bool) (xs : List X) (i n : ℕ) (y : X) → slice_get xs i ≡ Some y → test y ≡ true
    → list_any test (take n xs) ≡ false → n ≤ i
not_below test xs i n y is passes none = by (cases_lt i n) where
  by : (i < n) ⊎ (n ≤ i) → n ≤ i
  by (inr le) = le
  by (inl lt) = clash (list_any test (take n xs)) (there test xs i n y is passes lt) none

-- what is among the first n is below n, and there in the whole list; and the other way round
pub taken_is : {X : Type 0} (xs : List X) (n i : ℕ) (x : X) → slice_get (take n xs) i ≡ Some x → (i < n) × (slice_get xs i ≡ Some x)
taken_is [] zero i x is = absurd (cc is)
taken_is [] (suc n) i x is = absurd (cc is)
taken_is (y ∷ xs) zero i x is = absurd (cc is)
taken_is (y ∷ xs) (suc n) zero x is = (omega arith, is)
taken_is (y ∷ xs) (suc n) (suc i) x is = let h = taken_is xs n i x is in (omega (arith, h.0), h.1)

pub is_taken : {X : Type 0} (xs : List X) (n i : ℕ) (x : X) → i < n → slice_get xs i ≡ Some x → slice_get (take n xs) i ≡ Some x
is_taken [] n i x lt is = absurd (cc is)
is_taken (y ∷ xs) zero i x lt is = absurd (omega (arith, lt))
is_taken (y ∷ xs) (suc n) zero x lt is = is
is_taken (y ∷ xs) (suc n) (suc i) x lt is = is_taken xs n i x (omega (arith, lt)) is

-- an act of node p that passes the test is at position i
pub record ActAt (test : Act → Bool) (zs : List Place) (i p : ℕ) : Type 0 where
  pub act : Act
  pub is : slice_get zs i ≡ Some (record { node = p; act = act })
  pub passes : test act ≡ true

-- the same, somewhere
pub record ActBelow (test : Act → Bool) (zs : List Place) (p n : ℕ) : Type 0 where
  pub place : ℕ
  pub below : place < n
  pub at : ActAt test zs place p

-- what passes a test of acts is an act at its position
pub found_act : (test : Act → Bool) (zs : List Place) (n : ℕ) (f : Found (λ (x : Place). test x.act) zs n) → ActAt test zs f.place f.item.node
found_act test zs n f = record { act = f.item.act; is = f.is; passes = f.passes }

-- what passes a test of acts and is at node p
pub act_found : (test : Act → Bool) (zs : List Place) (p n : ℕ) → list_any (λ (x : Place). (x.node == p) && test x.act) (take n zs) ≡ true
    → ActBelow test zs p n
act_found test zs p n is =
    let f = found (λ (x : Place). (x.node == p) && test x.act) zs n is in
    let node : f.item.node ≡ p = eqb-true f.item.node p (left_true (f.item.node == p) (test f.item.act) f.passes) in
    record {
      place = f.place;
      below = f.below;
      at = record {
        act = f.item.act;
        is = f.is ∙ (λ i. Some (record { node = node i; act = f.item.act }));
        passes = right_true (f.item.node == p) (test f.item.act) f.passes;
      };
    }

-- at one position is one act
pub act_same : (test more : Act → Bool) (zs : List Place) (i p q : ℕ) (a : ActAt test zs i p) (b : ActAt more zs i q) → more a.act ≡ true
act_same test more zs i p q a b = by (record { node = p; act = a.act }) (record { node = q; act = b.act }) a.is b.is b.passes where
  by : (x y : Place) → slice_get zs i ≡ Some x → slice_get zs i ≡ Some y → more y.act ≡ true → more x.act ≡ true
  by x y one two is = let same : x ≡ y = cc (one, two) in ap (λ (z : Place). more z.act) same ∙ is

-- an act at a position is at each equal one
pub act_there : (test : Act → Bool) (zs : List Place) (i j p : ℕ) → ActAt test zs i p → i ≡ j → ActAt test zs j p
act_there test zs i j p a e = record { act = a.act; is = sym (ap (slice_get zs) e) ∙ a.is; passes = a.passes }

-- an act below n is one among the first n
pub act_taken : (test : Act → Bool) (zs : List Place) (i n p : ℕ) → i < n → ActAt test zs i p → ActAt test (take n zs) i p
act_taken test zs i n p lt a =
    record { act = a.act; is = is_taken zs n i (record { node = p; act = a.act }) lt a.is; passes = a.passes }
