-- A list in parts by number: what their lengths add up to.
use Rattle.std.proofs.Common.{◌≡◌, ℕ, zero, suc, ◌+◌, ◌<◌, ◌≤◌, ◌==◌, Bool, true, false, List, [], ◌∷◌, length, filter, map, refl, ap, ◌∙◌, arith, Some}
use Rattle.std.specs.Prelude.{if◌then◌else◌, slice_get, sum_by}
use Rattle.std.proofs.lemmas.Bool.Decides.{nat_tests}
use Rattle.std.proofs.lemmas.List.Sums.{sum_by-cons}
use Rattle.history_merge.specs.Merging.{NumberedBy}

other_by : {X : Type 0} (b : Bool) (x : X) (xs : List X) → b ≡ false → length (if b then x ∷ xs else xs) ≡ length xs
other_by b x xs is = rw is refl

module _ {X : Type 0} (f : X → ℕ) where
  -- how long so many parts are together, from part n on
  abbrev pub together : ℕ → ℕ → List X → ℕ
  together n zero xs = 0
  together n (suc m) xs = length (filter (λ x. f x == n) xs) + together (n + 1) m xs

  none_there : (n m : ℕ) → together n m [] ≡ 0
  none_there n zero = refl
  none_there n (suc m) = omega (arith, none_there (n + 1) m)

  -- an item of an earlier part adds nothing
  earlier : (n m : ℕ) (x : X) (xs : List X) → f x < n → together n m (x ∷ xs) ≡ together n m xs
  earlier n zero x xs lt = refl
  earlier n (suc m) x xs lt =
      let no' : (f x == n) ≡ false = grind (arith, nat_tests) in
      omega (arith, other_by (f x == n) x (filter (λ y. f y == n) xs) no', earlier (n + 1) m x xs (omega arith))

  one_by : (b : Bool) (n m : ℕ) (x : X) (xs : List X) → (f x == n) ≡ b → n ≤ f x
      → (n + 1 ≤ f x → together (n + 1) m (x ∷ xs) ≡ suc (together (n + 1) m xs))
      → length (if b then x ∷ filter (λ y. f y == n) xs else filter (λ y. f y == n) xs) + together (n + 1) m (x ∷ xs)
      ≡ suc (length (filter (λ y. f y == n) xs) + together (n + 1) m xs)
  one_by true n m x xs is le later =
      let here : f x ≡ n = grind (arith, nat_tests) in
      omega (arith, earlier (n + 1) m x xs (omega arith))
  one_by false n m x xs is le later =
      let past : n + 1 ≤ f x = grind (arith, nat_tests) in
      omega (arith, later past)

  -- an item of one of these parts adds one
  one_more : (n m : ℕ) (x : X) (xs : List X) → n ≤ f x → f x < n + m → together n m (x ∷ xs) ≡ suc (together n m xs)
  one_more n zero x xs le lt = absurd (omega arith)
  one_more n (suc m) x xs le lt =
      one_by (f x == n) n m x xs refl le (λ past. one_more (n + 1) m x xs past (omega arith))

  -- where each item is of one of these parts, none is left out
  none_left_out : (m : ℕ) (xs : List X) → ((k : ℕ) (x : X) → slice_get xs k ≡ Some x → f x < m) → together 0 m xs ≡ length xs
  none_left_out m [] each = none_there 0 m
  none_left_out m (x ∷ xs) each =
      one_more 0 m x xs (omega arith) (omega (arith, each 0 x refl)) ∙ ap suc (none_left_out m xs (λ k y at. each (suc k) y at))

  module _ {Y : Type 0} where
    rows_from : (n : ℕ) (rows : List (List Y)) (xs : List X)
        → ((a : ℕ) (ys : List Y) → slice_get rows a ≡ Some ys → length ys ≡ length (filter (λ x. f x == n + a) xs))
        → sum_by (length {A = Y}) rows ≡ together n (length rows) xs
    rows_from n [] xs each = refl
    rows_from n (ys ∷ rows) xs each =
        let here : n + 0 ≡ n = omega arith in
        let first : length ys ≡ length (filter (λ x. f x == n) xs) =
        each 0 ys refl ∙ ap (λ (m : ℕ). length (filter (λ x. f x == m) xs)) here in
        let rest = rows_from (n + 1) rows xs (λ a zs at. let there : n + suc a ≡ n + 1 + a = omega arith in
        each (suc a) zs at ∙ ap (λ (m : ℕ). length (filter (λ x. f x == m) xs)) there) in
        omega (arith, sum_by-cons (length {A = Y}) ys rows, first, rest)

    -- rows that are each as long as their part are together as long as the list
    pub rows_together : (rows : List (List Y)) (xs : List X)
        → ((a : ℕ) (ys : List Y) → slice_get rows a ≡ Some ys → length ys ≡ length (filter (λ x. f x == a) xs))
        → ((k : ℕ) (x : X) → slice_get xs k ≡ Some x → f x < length rows) → sum_by (length {A = Y}) rows ≡ length xs
    rows_together rows xs each known =
        rows_from 0 rows xs (λ a ys at. let here : a ≡ 0 + a = omega arith in
        each a ys at ∙ ap (λ (m : ℕ). length (filter (λ x. f x == m) xs)) here)
        ∙ none_left_out (length rows) xs known

-- a sum over rows is one over what has them
pub sum_rows : {X Y : Type 0} (g : X → List Y) (xs : List X) → sum_by (length {A = Y}) (map g xs) ≡ sum_by (λ x. length (g x)) xs
sum_rows {X} {Y} g [] = refl
sum_rows {X} {Y} g (x ∷ xs) =
    omega (arith, sum_by-cons (length {A = Y}) (g x) (map g xs), sum_by-cons (λ (y : X). length (g y)) x xs, sum_rows g xs)

-- what has numbers by what is made of it has them by itself
pub numbered_as : {X Y : Type 0} (f : X → ℕ) (g : Y → X) (n : ℕ) (ys : List Y) → NumberedBy f n (map g ys) → NumberedBy (λ y. f (g y)) n ys
numbered_as f g n [] is = tt
numbered_as f g n (y ∷ ys) is = (is.0, numbered_as f g (n + 1) ys is.1)
