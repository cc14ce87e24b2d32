-- Two lists of the same things, each once, in which those that are tied are in the same order, fold to the same.
use Rattle.std.proofs.Common.{◌≡◌, ◌⊎◌, inl, inr, Bool, true, false, List, [], ◌∷◌, ◌++◌, refl, sym, ap, subst, ◌∙◌}
use Rattle.std.specs.Prelude.{◌&&◌, ◌||◌, fold}
use Rattle.std.proofs.lemmas.Bool.{and_from, cases_Bool, false_from_ne_true, or_cases, or_from, or_left, or_right}
use Rattle.board_rules.proofs.Once.{AreOnce, IsEquality, ahead, ahead_append, ahead_has, clash, has, has_append, has_same, nothing_there, one_way}

-- a list in which x occurs, cut there
record Cut {X : Type 0} (x : X) (ys : List X) : Type 0 where
  before : List X
  after : List X
  is : ys ≡ before ++ x ∷ after

module _ {O : Type 0} (same : O → O → Bool) (equal : IsEquality same) where
  cut_by : (x y : O) (ys : List O) → (has same x ys ≡ true → Cut x ys) → (same y x ≡ true) ⊎ (has same x ys ≡ true) → Cut x (y ∷ ys)
  cut_by x y ys rest (inl is) =
      record { before = []; after = ys; is = ap (λ z. z ∷ ys) (equal.sound y x is) }
  cut_by x y ys rest (inr some) =
      let c = rest some in
      record { before = y ∷ c.before; after = c.after; is = ap (λ zs. y ∷ zs) c.is }

  cut : (x : O) (ys : List O) → has same x ys ≡ true → Cut x ys
  cut x [] some = absurd (cc some)
  cut x (y ∷ ys) some = cut_by x y ys (cut x ys) (or_cases (same y x) (has same x ys) some)

  -- without one thing, the others are as they was
  has_without : (z a : O) (p q : List O) → same a z ≡ false → has same z (p ++ a ∷ q) ≡ has same z (p ++ q)
  has_without z a [] q other = ap (λ c. c || has same z q) other
  has_without z a (x ∷ p) q other = ap (λ c. same x z || c) (has_without z a p q other)

  ahead_without : (b c a : O) (p q : List O) → same a b ≡ false → same a c ≡ false → ahead same b c (p ++ a ∷ q) ≡ ahead same b c (p ++ q)
  ahead_without b c a [] q one two = ap (λ z. (z && has same c q) || ahead same b c q) one
  ahead_without b c a (x ∷ p) q one two =
      ap (λ z. (same x b && z) || ahead same b c (p ++ a ∷ q)) (has_without c a p q two)
      ∙ ap (λ z. (same x b && has same c (p ++ q)) || z) (ahead_without b c a p q one two)

  once_without : (a : O) (p q : List O) → AreOnce same (p ++ a ∷ q) → (has same a (p ++ q) ≡ false) × AreOnce same (p ++ q)
  once_without a [] q once = once
  once_without a (x ∷ p) q once =
      let rest = once_without a p q once.1 in
      let other : same a x ≡ false = false_from_ne_true (same a x) (λ is.
      clash (has same x (p ++ a ∷ q)) (has_append same equal x p (a ∷ q) ∙ or_right (has same x p) (has same x (a ∷ q)) (or_left (same a x) (has same x q) is)) once.0) in
      let back : same x a ≡ false = false_from_ne_true (same x a) (λ is.
      clash (same a x) (ap (λ z. same a z) (equal.sound x a is) ∙ equal.itself a) other) in
      (or_from (same x a) (has same a (p ++ q)) back rest.0, (sym (has_without x a p q other) ∙ once.0, rest.1))

  -- what is before a in a list
  middle_ahead : (x a : O) (p q : List O) → has same x p ≡ true → ahead same x a (p ++ a ∷ q) ≡ true
  middle_ahead x a p q there = ahead_append same equal x a p (a ∷ q) there (or_left (same a a) (has same a q) (equal.itself a))

  head_ahead : (a x : O) (xs : List O) → has same x xs ≡ true → ahead same a x (a ∷ xs) ≡ true
  head_ahead a x xs there =
      or_left (same a a && has same x xs) (ahead same a x xs) (and_from (same a a) (has same x xs) (equal.itself a) there)

  -- Folds.
  module _ {S : Type 0} (act : S → O → S) (tied : O → O → Bool)
      (comm : (s : S) (a b : O) → tied b a ≡ false → act (act s a) b ≡ act (act s b) a) where
    abbrev Loose : O → List O → Type 0
    Loose a [] = Unit {0}
    Loose a (x ∷ p) = (tied a x ≡ false) × Loose a p

    loose : (a : O) (p : List O) → ((x : O) → has same x p ≡ true → tied a x ≡ false) → Loose a p
    loose a [] h = tt
    loose a (x ∷ p) h = (
      h x (or_left (same x x) (has same x p) (equal.itself x)),
      loose a p (λ (y : O) there. h y (or_right (same x y) (has same y p) there)),
    )

    -- one to the front, past those to which it isn't tied
    moved : (s : S) (a : O) (p q : List O) → Loose a p → fold act s (p ++ a ∷ q) ≡ fold act (act s a) (p ++ q)
    moved s a [] q h = refl
    moved s a (x ∷ p) q h = moved (act s x) a p q h.1 ∙ ap (λ z. fold act z (p ++ q)) (comm s x a h.0)

    -- what has to hold of two lists
    pub record AreAlike (xs ys : List O) : Type 0 where
      pub first : AreOnce same xs
      pub second : AreOnce same ys
      pub all : (z : O) → has same z xs ≡ has same z ys
      pub order : (a b : O) → tied a b ≡ true → ahead same a b xs ≡ true → ahead same a b ys ≡ true

    other_of : (a z : O) (xs : List O) → has same a xs ≡ false → has same z xs ≡ true → same a z ≡ false
    other_of a z xs none there = false_from_ne_true (same a z) (λ is. clash (has same z xs) there (sym (has_same same equal a z xs is) ∙ none))

    rest_has : (a z : O) (xs p q : List O) → AreAlike (a ∷ xs) (p ++ a ∷ q) → (same a z ≡ true) ⊎ (same a z ≡ false)
        → has same z xs ≡ has same z (p ++ q)
    rest_has a z xs p q h (inl is) =
        sym (has_same same equal a z xs is) ∙ h.first.0 ∙ sym (once_without a p q h.second).0 ∙ has_same same equal a z (p ++ q) is
    rest_has a z xs p q h (inr other) =
        sym (ap (λ c. c || has same z xs) other) ∙ h.all z ∙ has_without z a p q other

    rest_alike : (a : O) (xs p q : List O) → AreAlike (a ∷ xs) (p ++ a ∷ q) → AreAlike xs (p ++ q)
    rest_alike a xs p q h = record {
      first = h.first.1;
      second = (once_without a p q h.second).1;
      all = λ z. rest_has a z xs p q h (cases_Bool (same a z));
      order = λ b c tie is.
          let both = ahead_has same equal b c xs is in
          sym (ahead_without b c a p q (other_of a b xs h.first.0 both.0) (other_of a c xs h.first.0 both.1))
          ∙ h.order b c tie (or_right (same a b && has same c xs) (ahead same b c xs) is);
    }

    before_loose : (a x : O) (xs p q : List O) → AreAlike (a ∷ xs) (p ++ a ∷ q) → has same x p ≡ true → tied a x ≡ false
    before_loose a x xs p q h there =
        let there2 : has same x (p ++ q) ≡ true = has_append same equal x p q ∙ or_left (has same x p) (has same x q) there in
        let in_xs : has same x xs ≡ true = rest_has a x xs p q h (cases_Bool (same a x)) ∙ there2 in
        false_from_ne_true (tied a x) (λ tie.
        clash (ahead same a x (p ++ a ∷ q)) (h.order a x tie (head_ahead a x xs in_xs))
        (one_way same equal x a (p ++ a ∷ q) h.second (middle_ahead x a p q there)))

    fold_step : (a : O) (xs ys : List O) → AreAlike (a ∷ xs) ys
        → ((zs : List O) → AreAlike xs zs → (s : S) → fold act s xs ≡ fold act s zs) → Cut a ys → (s : S)
        → fold act s (a ∷ xs) ≡ fold act s ys
    fold_step a xs ys h rest c s =
        let k : AreAlike (a ∷ xs) (c.before ++ a ∷ c.after) = subst (AreAlike (a ∷ xs)) c.is h in
        rest (c.before ++ c.after) (rest_alike a xs c.before c.after k) (act s a)
        ∙ sym (moved s a c.before c.after (loose a c.before (λ x there. before_loose a x xs c.before c.after k there)))
        ∙ sym (ap (fold act s) c.is)

    pub fold_same_order : (xs ys : List O) → AreAlike xs ys → (s : S) → fold act s xs ≡ fold act s ys
    fold_same_order [] ys h s = sym (ap (fold act s) (nothing_there same equal ys (λ z. sym (h.all z))))
    fold_same_order (a ∷ xs) ys h s =
        fold_step a xs ys h (fold_same_order xs)
        (cut a ys (sym (h.all a) ∙ or_left (same a a) (has same a xs) (equal.itself a))) s
