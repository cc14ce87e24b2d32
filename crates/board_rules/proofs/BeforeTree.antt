-- Who is in a list before a transaction.
use Rattle.std.proofs.Common.{◌≡◌, ◌⊎◌, inl, inr, ℕ, ◌==◌, ◌&&◌, Bool, true, false, List, [], ◌∷◌, refl, sym, ap, ◌∙◌}
use Rattle.std.specs.Prelude.{if◌then◌else◌, ◌||◌}
use Rattle.std.proofs.lemmas.Bool.{and_from, eqb-true, false_from_ne_true, or_cases, or_left, or_right}
use Rattle.tv_base.proofs.Truths.{left_true, right_true}
use Rattle.board_rules.specs.Serial.{is_in}
use Rattle.board_rules.proofs.Closings.{AreApart}
use Rattle.board_rules.proofs.Once.{ahead, ahead_has, clash, numbers_equal, same_number}

-- those that are in the list before tree k
abbrev pub before_tree : ℕ → List ℕ → List ℕ
before_tree k [] = []
before_tree k (t ∷ ts) = if t == k then [] else t ∷ before_tree k ts

before_in_by : (t k u : ℕ) (ts : List ℕ) (b : Bool) → (u == k) ≡ b → (is_in t (before_tree k ts) ≡ true → is_in t ts ≡ true)
    → is_in t (if b then [] else u ∷ before_tree k ts) ≡ true → is_in t (u ∷ ts) ≡ true
before_in_by t k u ts true e rest is = absurd (cc is)
before_in_by t k u ts false e rest is = by (or_cases (u == t) (is_in t (before_tree k ts)) is) where
  by : ((u == t) ≡ true) ⊎ (is_in t (before_tree k ts) ≡ true) → is_in t (u ∷ ts) ≡ true
  by (inl here) = or_left (u == t) (is_in t ts) here
  by (inr later) = or_right (u == t) (is_in t ts) (rest later)

-- what is before k is in the list
pub before_in : (t k : ℕ) (ts : List ℕ) → is_in t (before_tree k ts) ≡ true → is_in t ts ≡ true
before_in t k [] is = absurd (cc is)
before_in t k (u ∷ ts) is = before_in_by t k u ts (u == k) refl (before_in t k ts) is

-- what is ahead of k is before it
ahead_before_by : (t k u : ℕ) (ts : List ℕ) (b : Bool) → (u == k) ≡ b → is_in u ts ≡ false
    → (ahead same_number t k ts ≡ true → is_in t (before_tree k ts) ≡ true)
    → (((u == t) && is_in k ts) ≡ true) ⊎ (ahead same_number t k ts ≡ true)
    → is_in t (if b then [] else u ∷ before_tree k ts) ≡ true
ahead_before_by t k u ts true e once rest (inl here) =
    clash (is_in k ts) (right_true (u == t) (is_in k ts) here) (sym (ap (λ z. is_in z ts) (eqb-true u k e)) ∙ once)
ahead_before_by t k u ts true e once rest (inr later) =
    clash (is_in k ts) (ahead_has same_number numbers_equal t k ts later).1 (sym (ap (λ z. is_in z ts) (eqb-true u k e)) ∙ once)
ahead_before_by t k u ts false e once rest (inl here) = or_left (u == t) (is_in t (before_tree k ts)) (left_true (u == t) (is_in k ts) here)
ahead_before_by t k u ts false e once rest (inr later) = or_right (u == t) (is_in t (before_tree k ts)) (rest later)

pub ahead_before : (t k : ℕ) (ts : List ℕ) → AreApart ts → ahead same_number t k ts ≡ true → is_in t (before_tree k ts) ≡ true
ahead_before t k [] apart is = absurd (cc is)
ahead_before t k (u ∷ ts) apart is =
    ahead_before_by t k u ts (u == k) refl apart.0 (ahead_before t k ts apart.1) (or_cases ((u == t) && is_in k ts) (ahead same_number t k ts) is)

-- what is before k is ahead of it, where k is there
before_ahead_by : (t k u : ℕ) (ts : List ℕ) (b : Bool) → (u == k) ≡ b
    → (is_in k ts ≡ true → is_in t (before_tree k ts) ≡ true → ahead same_number t k ts ≡ true)
    → (((u == k) ≡ true) ⊎ (is_in k ts ≡ true)) → is_in t (if b then [] else u ∷ before_tree k ts) ≡ true
    → (((u == t) && is_in k ts) || ahead same_number t k ts) ≡ true
before_ahead_by t k u ts true e rest there is = absurd (cc is)
before_ahead_by t k u ts false e rest (inl here) is = clash (u == k) here e
before_ahead_by t k u ts false e rest (inr there) is = by (or_cases (u == t) (is_in t (before_tree k ts)) is) where
  by : ((u == t) ≡ true) ⊎ (is_in t (before_tree k ts) ≡ true) → (((u == t) && is_in k ts) || ahead same_number t k ts) ≡ true
  by (inl here) = or_left ((u == t) && is_in k ts) (ahead same_number t k ts) (and_from (u == t) (is_in k ts) here there)
  by (inr later) = or_right ((u == t) && is_in k ts) (ahead same_number t k ts) (rest there later)

pub before_ahead : (t k : ℕ) (ts : List ℕ) → is_in k ts ≡ true → is_in t (before_tree k ts) ≡ true → ahead same_number t k ts ≡ true
before_ahead t k [] there is = absurd (cc is)
before_ahead t k (u ∷ ts) there is =
    before_ahead_by t k u ts (u == k) refl (before_ahead t k ts) (or_cases (u == k) (is_in k ts) there) is

apart_by : (k u : ℕ) (ts : List ℕ) (b : Bool) → is_in u ts ≡ false → AreApart (before_tree k ts) → AreApart (if b then [] else u ∷ before_tree k ts)
apart_by k u ts true none apart = tt
apart_by k u ts false none apart =
    (false_from_ne_true (is_in u (before_tree k ts)) (λ is. clash (is_in u ts) (before_in u k ts is) none), apart)

pub before_apart : (k : ℕ) (ts : List ℕ) → AreApart ts → AreApart (before_tree k ts)
before_apart k [] apart = tt
before_apart k (u ∷ ts) apart = apart_by k u ts (u == k) apart.0 (before_apart k ts apart.1)

-- order among those before k
order_by : (t q k u : ℕ) (ts : List ℕ) (b : Bool) → (u == k) ≡ b → is_in u ts ≡ false
    → (ahead same_number t q ts ≡ true → ahead same_number q k ts ≡ true → ahead same_number t q (before_tree k ts) ≡ true)
    → (ahead same_number q k ts ≡ true → is_in q (before_tree k ts) ≡ true)
    → (((u == t) && is_in q ts) ≡ true) ⊎ (ahead same_number t q ts ≡ true)
    → (((u == q) && is_in k ts) ≡ true) ⊎ (ahead same_number q k ts ≡ true)
    → ahead same_number t q (if b then [] else u ∷ before_tree k ts) ≡ true
order_by t q k u ts true e once rest in_ one (inl two) =
    clash (is_in k ts) (right_true (u == q) (is_in k ts) two) (sym (ap (λ z. is_in z ts) (eqb-true u k e)) ∙ once)
order_by t q k u ts true e once rest in_ one (inr two) =
    clash (is_in k ts) (ahead_has same_number numbers_equal q k ts two).1 (sym (ap (λ z. is_in z ts) (eqb-true u k e)) ∙ once)
order_by t q k u ts false e once rest in_ (inl one) (inr two) =
    or_left ((u == t) && is_in q (before_tree k ts)) (ahead same_number t q (before_tree k ts))
    (and_from (u == t) (is_in q (before_tree k ts)) (left_true (u == t) (is_in q ts) one) (in_ two))
order_by t q k u ts false e once rest in_ (inr one) (inr two) =
    or_right ((u == t) && is_in q (before_tree k ts)) (ahead same_number t q (before_tree k ts)) (rest one two)
order_by t q k u ts false e once rest in_ (inl one) (inl two) =
    clash (is_in q ts) (right_true (u == t) (is_in q ts) one) (sym (ap (λ z. is_in z ts) (eqb-true u q (left_true (u == q) (is_in k ts) two))) ∙ once)
order_by t q k u ts false e once rest in_ (inr one) (inl two) =
    clash (is_in q ts) (ahead_has same_number numbers_equal t q ts one).1 (sym (ap (λ z. is_in z ts) (eqb-true u q (left_true (u == q) (is_in k ts) two))) ∙ once)

pub before_order : (t q k : ℕ) (ts : List ℕ) → AreApart ts → ahead same_number t q ts ≡ true → ahead same_number q k ts ≡ true
    → ahead same_number t q (before_tree k ts) ≡ true
before_order t q k [] apart one two = absurd (cc one)
before_order t q k (u ∷ ts) apart one two =
    order_by t q k u ts (u == k) refl apart.0 (before_order t q k ts apart.1) (ahead_before q k ts apart.1)
    (or_cases ((u == t) && is_in q ts) (ahead same_number t q ts) one) (or_cases ((u == q) && is_in k ts) (ahead same_number q k ts) two)
