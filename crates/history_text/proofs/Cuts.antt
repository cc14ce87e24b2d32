-- The parts of a text that is cut at a byte.
use Rattle.std.proofs.Common.{◌≡◌, ◌∙◌, ◌∷◌, ◌++◌, [], List, Bool, true, false, ℕ, refl, ap}
use Rattle.std.specs.Prelude.{◌==◌, not, cond}
use Rattle.std.specs.List.{onto_first}
use Rattle.std.proofs.lemmas.Bool.{not-true}
use Rattle.tv_base.proofs.Truths.{left_true, right_true, same_test}
use Rattle.history_text.specs.Parts.{lacks, parts_at}

-- a text without the byte is one part
pub one_part : (b : ℕ) (xs : List ℕ) → lacks b xs ≡ true → parts_at b xs ≡ xs ∷ []
one_part b [] h = refl
one_part b (x ∷ xs) h =
    let other : (x == b) ≡ false = not-true (x == b) (left_true (not (x == b)) (lacks b xs) h) in
    ap (λ (t : Bool). cond t ([] ∷ parts_at b xs) (onto_first x (parts_at b xs))) other ∙ ap (onto_first x) (one_part b xs (right_true (not (x == b)) (lacks b xs) h))

-- the first part ends at the first such byte
pub first_part_is : (b : ℕ) (xs ys : List ℕ) → lacks b xs ≡ true → parts_at b (xs ++ b ∷ ys) ≡ xs ∷ parts_at b ys
first_part_is b [] ys h = ap (λ (t : Bool). cond t ([] ∷ parts_at b ys) (onto_first b (parts_at b ys))) (same_test b)
first_part_is b (x ∷ xs) ys h =
    let other : (x == b) ≡ false = not-true (x == b) (left_true (not (x == b)) (lacks b xs) h) in
    ap (λ (t : Bool). cond t ([] ∷ parts_at b (xs ++ b ∷ ys)) (onto_first x (parts_at b (xs ++ b ∷ ys)))) other
    ∙ ap (onto_first x) (first_part_is b xs ys (right_true (not (x == b)) (lacks b xs) h))

-- the same of a text that is known to be so
pub first_part : (b : ℕ) (text xs ys : List ℕ) → text ≡ xs ++ b ∷ ys → lacks b xs ≡ true → parts_at b text ≡ xs ∷ parts_at b ys
first_part b text xs ys is h = ap (parts_at b) is ∙ first_part_is b xs ys h

-- there is one part at least
pub some_part : (b : ℕ) (text : List ℕ) → parts_at b text ≡ [] → ⊥
some_part b [] is = cc
some_part b (x ∷ xs) is = by (x == b) (parts_at b xs) (some_part b xs) is
  where
    by : (t : Bool) (ps : List (List ℕ)) → (ps ≡ [] → ⊥) → cond t ([] ∷ ps) (onto_first x ps) ≡ [] → ⊥
    by true ps some is = cc
    by false [] some is = some refl
    by false (p ∷ ps) some is = cc

-- a text is cut at its first such byte alone
pub one_cut : (b : ℕ) (xs zs ys ws : List ℕ) → lacks b xs ≡ true → lacks b zs ≡ true → xs ++ b ∷ ys ≡ zs ++ b ∷ ws → (xs ≡ zs) × (ys ≡ ws)
one_cut b [] [] ys ws hx hz is = (refl, cc)
one_cut b [] (z ∷ zs) ys ws hx hz is =
    let other : (z == b) ≡ false = not-true (z == b) (left_true (not (z == b)) (lacks b zs) hz) in
    let same : b ≡ z = cc in
    let self : (z == b) ≡ true = ap (λ (n : ℕ). z == n) same ∙ same_test z in
    cc
one_cut b (x ∷ xs) [] ys ws hx hz is =
    let other : (x == b) ≡ false = not-true (x == b) (left_true (not (x == b)) (lacks b xs) hx) in
    let same : b ≡ x = cc in
    let self : (x == b) ≡ true = ap (λ (n : ℕ). x == n) same ∙ same_test x in
    cc
one_cut b (x ∷ xs) (z ∷ zs) ys ws hx hz is =
    let first : x ≡ z = cc in
    let tails : xs ++ b ∷ ys ≡ zs ++ b ∷ ws = cc in
    let more = one_cut b xs zs ys ws (right_true (not (x == b)) (lacks b xs) hx) (right_true (not (z == b)) (lacks b zs) hz) tails in
    (ap (λ (n : ℕ). n ∷ xs) first ∙ ap (λ (t : List ℕ). z ∷ t) more.0, more.1)
