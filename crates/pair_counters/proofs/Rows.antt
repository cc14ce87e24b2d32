-- What the rows count after a change.
use Rattle.std.proofs.Common.{◌≡◌, ℕ, zero, suc, ◌+◌, ◌-◌, ◌%◌, ◌<◌, ◌≤◌, true, false, List, [], ◌∷◌, length, length-append, get_or, set, cond, eqb, min, refl, ap, sym, ◌∙◌, arith, ◌⊎◌, inl, inr, replicate, Option}
use Rattle.std.specs.Prelude.{slice_get}
use Rattle.std.proofs.Math.Path.{fun_ext}
use Rattle.std.proofs.lemmas.Bool.{cases_eq, cases_lt, eq-eqb, ne_eqb, lt-ltb, le-ltb}
use Rattle.std.proofs.lemmas.Bool.Decides.{nat_tests}
use Rattle.std.proofs.lemmas.List.{get_or-set_same, get_or-set_other}
use Rattle.std.proofs.lemmas.Option.{slice_get-get_or}
use Rattle.pair_counters.specs.declared.counters.CounterRow.{CounterRow}
use Rattle.pair_counters.specs.Numbers.{more_at, from_version, numbers_of}
use Rattle.pair_counters.specs.Counts.{CountsThree}
use Rattle.pair_counters.specs.Rows.{CounterRows, is_kept, number_in_row, number_in, counts_of}

-- which versions are kept
pub kept : (low v : ℕ) → low ≤ v → v ≤ low + 2 → is_kept low v ≡ true
kept low v from up_to = grind (arith, nat_tests)

pub kept-not : (low v : ℕ) → (v < low) ⊎ (low + 2 < v) → is_kept low v ≡ false
kept-not low v (inl less) = grind (arith, nat_tests)
kept-not low v (inr more) = grind (arith, nat_tests)

data Where (low v : ℕ) : Type 0 where
  Within : low ≤ v → v ≤ low + 2 → Where low v
  Outside : (v < low) ⊎ (low + 2 < v) → Where low v

where_of : (low v : ℕ) → Where low v
where_of low v =
    elim (cases_lt v low) [
      | inl less ↦ Outside (inl less)
      | inr from ↦ elim (cases_lt (low + 2) v) [ inl more ↦ Outside (inr more) | inr up_to ↦ Within from up_to ]
    ]

-- the numbers of a kept version are those of its row, and those of any other are 0
pub number-kept : (f : CounterRow → List ℕ) (low v q : ℕ) (rs : List CounterRow) → low ≤ v → v ≤ low + 2
    → number_in f low rs v q ≡ number_in_row f q (slice_get rs (v % 3))
number-kept f low v q rs from up_to = rw (kept low v from up_to) refl

pub number-outside : (f : CounterRow → List ℕ) (low v q : ℕ) (rs : List CounterRow) → (v < low) ⊎ (low + 2 < v)
    → number_in f low rs v q ≡ 0
number-outside f low v q rs out = rw (kept-not low v out) refl

pub counts-three : (c : CounterRows) → CountsThree (counts_of c)
counts-three c v q out =
    (number-outside (λ r. r.asked) c.low v q c.rows out, number-outside (λ r. r.done) c.low v q c.rows out)

-- the row at a place
number-row : (f : CounterRow → List ℕ) (p q : ℕ) (rs : List CounterRow) (d : CounterRow) → p < length rs
    → number_in_row f q (slice_get rs p) ≡ get_or (f (get_or rs p d)) q 0
number-row f p q rs d lt = ap (λ (o : Option CounterRow). number_in_row f q o) (slice_get-get_or rs p d lt)

row-same : (f : CounterRow → List ℕ) (p q : ℕ) (rs : List CounterRow) (y : CounterRow) → p < length rs
    → number_in_row f q (slice_get (set rs p y) p) ≡ get_or (f y) q 0
row-same f p q [] y lt = absurd (omega arith)
row-same f zero q (r ∷ rs) y lt = refl
row-same f (suc p) q (r ∷ rs) y lt = row-same f p q rs y (omega arith)

row-other : (rs : List CounterRow) (p r : ℕ) (y : CounterRow) → (r ≡ p → ⊥) → slice_get (set rs p y) r ≡ slice_get rs r
row-other [] p r y ne = refl
row-other (x ∷ rs) zero zero y ne = absurd (ne refl)
row-other (x ∷ rs) zero (suc r) y ne = refl
row-other (x ∷ rs) (suc p) zero y ne = refl
row-other (x ∷ rs) (suc p) (suc r) y ne = row-other rs p r y (λ eq. ne (omega arith))

-- two of three versions in a row have different rows
rows-apart : (low v w : ℕ) → low ≤ v → v ≤ low + 2 → low ≤ w → w ≤ low + 2 → w % 3 ≡ v % 3 → w ≡ v
rows-apart low v w from up_to from' up_to' eq = omega arith

-- another row in the place of a version's: its numbers are there, and the other versions' stay
set-number : (f : CounterRow → List ℕ) (low v : ℕ) (rs : List CounterRow) (y : CounterRow) → length rs ≡ 3 → low ≤ v
    → v ≤ low + 2 → (w q : ℕ)
    → number_in f low (set rs (v % 3) y) w q ≡ cond (eqb w v) (get_or (f y) q 0) (number_in f low rs w q)
set-number f low v rs y three from up_to w q =
    elim (where_of low w) [
      | Outside out ↦
          let ne : w ≡ v → ⊥ = λ eq. elim out [ inl less ↦ omega arith | inr more ↦ omega arith ] in
          rw (ne_eqb w v ne, number-outside f low w q (set rs (v % 3) y) out) (sym (number-outside f low w q rs out))
      | Within from' up_to' ↦
          elim (cases_eq w v) [
            | inl eq ↦
                number-kept f low w q (set rs (v % 3) y) from' up_to'
                ∙ rw (eq-eqb w v eq, eq) (row-same f (v % 3) q rs y (omega arith))
            | inr ne ↦
                let apart : w % 3 ≡ v % 3 → ⊥ = λ eq. ne (rows-apart low v w from up_to from' up_to' eq) in
                number-kept f low w q (set rs (v % 3) y) from' up_to'
                ∙ ap (λ (o : Option CounterRow). number_in_row f q o) (row-other rs (v % 3) (w % 3) y apart)
                ∙ sym (number-kept f low w q rs from' up_to')
                ∙ rw (ne_eqb w v ne) refl
          ]
    ]

-- one number of a row is one more
row-more : (l : List ℕ) (q r : ℕ) → q < length l
    → get_or (set l q (get_or l q 0 + 1)) r 0 ≡ cond (eqb r q) (get_or l r 0 + 1) (get_or l r 0)
row-more l q r lt =
    elim (cases_eq r q) [
      | inl eq ↦ rw (eq-eqb r q eq, eq) (get_or-set_same l q (get_or l q 0 + 1) 0 lt)
      | inr ne ↦ rw (ne_eqb r q ne) (get_or-set_other l q r (get_or l q 0 + 1) 0 ne)
    ]

number-more_at : (f : CounterRow → List ℕ) (v q : ℕ) (rs : List CounterRow) (d y : CounterRow) → length rs ≡ 3
    → q < length (f (get_or rs (v % 3) d))
    → f y ≡ set (f (get_or rs (v % 3) d)) q (get_or (f (get_or rs (v % 3) d)) q 0 + 1)
    → (low : ℕ) → low ≤ v → v ≤ low + 2 → (w r : ℕ)
    → number_in f low (set rs (v % 3) y) w r ≡ more_at v q (number_in f low rs) w r
number-more_at f v q rs d y three lt next low from up_to w r =
    let x = get_or rs (v % 3) d in
    let was = number-kept f low v r rs from up_to ∙ number-row f (v % 3) r rs d (omega arith) in
    let at : get_or (f y) r 0 ≡ cond (eqb r q) (get_or (f x) r 0 + 1) (get_or (f x) r 0) =
    ap (λ (l : List ℕ). get_or l r 0) next ∙ row-more (f x) q r lt in
    rw (set-number f low v rs y three from up_to w r)
    (elim (cases_eq w v) [
      | inl eq ↦ rw (eq-eqb w v eq, eq, at, was) refl
      | inr ne ↦ rw (ne_eqb w v ne) refl
    ])

-- the row in the place of a version's has one more at a node
pub number-more : (f : CounterRow → List ℕ) (v q : ℕ) (rs : List CounterRow) (d y : CounterRow) → length rs ≡ 3
    → q < length (f (get_or rs (v % 3) d))
    → f y ≡ set (f (get_or rs (v % 3) d)) q (get_or (f (get_or rs (v % 3) d)) q 0 + 1)
    → (low : ℕ) → low ≤ v → v ≤ low + 2 → number_in f low (set rs (v % 3) y) ≡ more_at v q (number_in f low rs)
number-more f v q rs d y three lt next low from up_to =
    fun_ext (λ w. fun_ext (λ r. number-more_at f v q rs d y three lt next low from up_to w r))

number-same_at : (f : CounterRow → List ℕ) (v : ℕ) (rs : List CounterRow) (d y : CounterRow) → length rs ≡ 3
    → f y ≡ f (get_or rs (v % 3) d) → (low : ℕ) → low ≤ v → v ≤ low + 2 → (w r : ℕ)
    → number_in f low (set rs (v % 3) y) w r ≡ number_in f low rs w r
number-same_at f v rs d y three same low from up_to w r =
    let was = number-kept f low v r rs from up_to ∙ number-row f (v % 3) r rs d (omega arith) in
    rw (set-number f low v rs y three from up_to w r)
    (elim (cases_eq w v) [
      | inl eq ↦ rw (eq-eqb w v eq, eq, same, was) refl
      | inr ne ↦ rw (ne_eqb w v ne) refl
    ])

-- the row in the place of a version's has its numbers
pub number-same : (f : CounterRow → List ℕ) (v : ℕ) (rs : List CounterRow) (d y : CounterRow) → length rs ≡ 3
    → f y ≡ f (get_or rs (v % 3) d) → (low : ℕ) → low ≤ v → v ≤ low + 2
    → number_in f low (set rs (v % 3) y) ≡ number_in f low rs
number-same f v rs d y three same low from up_to =
    fun_ext (λ w. fun_ext (λ r. number-same_at f v rs d y three same low from up_to w r))

zeros-at : (n q : ℕ) → get_or {A = ℕ} (replicate n 0) q 0 ≡ 0
zeros-at zero q = refl
zeros-at (suc n) zero = refl
zeros-at (suc n) (suc q) = zeros-at n q

-- with three rows of zeros nothing is counted
none-of : (f : CounterRow → List ℕ) (n : ℕ) (x y z : CounterRow) → f x ≡ replicate n 0 → f y ≡ replicate n 0
    → f z ≡ replicate n 0 → (p q : ℕ) → number_in_row f q (slice_get (x ∷ y ∷ z ∷ []) p) ≡ 0
none-of f n x y z e e' e'' zero q = ap (λ (l : List ℕ). get_or l q 0) e ∙ zeros-at n q
none-of f n x y z e e' e'' (suc zero) q = ap (λ (l : List ℕ). get_or l q 0) e' ∙ zeros-at n q
none-of f n x y z e e' e'' (suc (suc zero)) q = ap (λ (l : List ℕ). get_or l q 0) e'' ∙ zeros-at n q
none-of f n x y z e e' e'' (suc (suc (suc p))) q = refl

none-in : (f : CounterRow → List ℕ) (low : ℕ) (rs : List CounterRow) → ((p q : ℕ) → number_in_row f q (slice_get rs p) ≡ 0)
    → (v q : ℕ) → number_in f low rs v q ≡ 0
none-in f low rs none v q =
    elim (where_of low v) [
      | Within from up_to ↦ number-kept f low v q rs from up_to ∙ none (v % 3) q
      | Outside out ↦ number-outside f low v q rs out
    ]

pub number-none : (f : CounterRow → List ℕ) (n low : ℕ) (x y z : CounterRow) → f x ≡ replicate n 0
    → f y ≡ replicate n 0 → f z ≡ replicate n 0 → number_in f low (x ∷ y ∷ z ∷ []) ≡ (λ v q. 0)
number-none f n low x y z e e' e'' =
    fun_ext (λ v. fun_ext (λ q. none-in f low (x ∷ y ∷ z ∷ []) (none-of f n x y z e e' e'') v q))

-- the place of the k-th version from low on
place-is : (low k : ℕ) → (low % 3 + k) % 3 ≡ (low + k) % 3
place-is low k = omega arith

-- one version more is dropped
dropped-at : (f : CounterRow → List ℕ) (n low k : ℕ) (g : ℕ → ℕ → ℕ) (rs : List CounterRow) (y : CounterRow)
    → length rs ≡ 3 → k < 3 → f y ≡ replicate n 0 → number_in f low rs ≡ from_version (low + k) g → (w q : ℕ)
    → number_in f low (set rs ((low + k) % 3) y) w q ≡ from_version (low + (k + 1)) g w q
dropped-at f n low k g rs y three few zeros before w q =
    let none : get_or (f y) q 0 ≡ 0 = ap (λ (l : List ℕ). get_or l q 0) zeros ∙ zeros-at n q in
    let was : number_in f low rs w q ≡ from_version (low + k) g w q = ap (λ (h : ℕ → ℕ → ℕ). h w q) before in
    rw (set-number f low (low + k) rs y three (omega arith) (omega arith) w q, none, was) (grind (arith, nat_tests))

pub dropped : (f : CounterRow → List ℕ) (n low k : ℕ) (g : ℕ → ℕ → ℕ) (rs : List CounterRow) (y : CounterRow)
    → length rs ≡ 3 → k < 3 → f y ≡ replicate n 0 → number_in f low rs ≡ from_version (low + k) g
    → number_in f low (set rs ((low % 3 + k) % 3) y) ≡ from_version (low + (k + 1)) g
dropped f n low k g rs y three few zeros before =
    rw (place-is low k) (fun_ext (λ w. fun_ext (λ q. dropped-at f n low k g rs y three few zeros before w q)))

-- the version that a row was of before
earlier : ℕ → ℕ → ℕ
earlier low w = low + (w - low) % 3

earlier-row : (low w : ℕ) → low ≤ w → earlier low w % 3 ≡ w % 3
unfolding earlier
earlier-row low w le = omega arith

earlier-less : (low v w : ℕ) → low + 2 < w → w ≤ v + 2 → low < v
    → (earlier low w ≤ low + 2) × (low ≤ earlier low w) × (earlier low w < v)
unfolding earlier
earlier-less low v w more up_to further = (omega arith, omega arith, omega arith)

-- with the versions below v dropped, the rows are those of the versions from v on
moved-on_at : (f : CounterRow → List ℕ) (low v : ℕ) (g : ℕ → ℕ → ℕ) (rs : List CounterRow) → low < v
    → ((w q : ℕ) → (w < low) ⊎ (low + 2 < w) → g w q ≡ 0)
    → number_in f low rs ≡ from_version (low + min (v - low) 3) g → (w q : ℕ)
    → number_in f v rs w q ≡ from_version v g w q
moved-on_at f low v g rs further others before w q =
    elim (where_of v w) [
      | Outside (inl less) ↦ rw (lt-ltb w v less) (number-outside f v w q rs (inl less))
      | Outside (inr more) ↦
          rw (le-ltb w v (omega arith)) (number-outside f v w q rs (inr more) ∙ sym (others w q (inr (omega arith))))
      | Within from up_to ↦
          elim (cases_lt (low + 2) w) [
            | inl more ↦
                let (le, ge, less) = earlier-less low v w more up_to further in
                let dropped : number_in f low rs (earlier low w) q ≡ 0 =
                ap (λ (h : ℕ → ℕ → ℕ). h (earlier low w) q) before
                ∙ rw (lt-ltb (earlier low w) (low + min (v - low) 3) (omega arith)) refl in
                number-kept f v w q rs from up_to
                ∙ ap (λ (p : ℕ). number_in_row f q (slice_get rs p)) (sym (earlier-row low w (omega arith)))
                ∙ sym (number-kept f low (earlier low w) q rs ge le) ∙ dropped
                ∙ rw (le-ltb w v from) (sym (others w q (inr more)))
            | inr few ↦
                number-kept f v w q rs from up_to ∙ sym (number-kept f low w q rs (omega arith) few)
                ∙ ap (λ (h : ℕ → ℕ → ℕ). h w q) before
                ∙ rw (le-ltb w v from, le-ltb w (low + min (v - low) 3) (omega arith)) refl
          ]
    ]

pub moved-on : (f : CounterRow → List ℕ) (low v k : ℕ) (was rs : List CounterRow) → low < v → k ≡ min (v - low) 3
    → number_in f low rs ≡ from_version (low + k) (number_in f low was)
    → number_in f v rs ≡ from_version v (number_in f low was)
moved-on f low v k was rs further all before =
    let before' : number_in f low rs ≡ from_version (low + min (v - low) 3) (number_in f low was) = rw all at before in
    let others = λ (u r : ℕ) (out : (u < low) ⊎ (low + 2 < u)). number-outside f low u r was out in
    fun_ext (λ w. fun_ext (λ q. moved-on_at f low v (number_in f low was) rs further others before' w q))

-- what is counted, part by part
pub counts-are : (n m low low' : ℕ) (rs : List CounterRow) (a d : ℕ → ℕ → ℕ) → n ≡ m → low ≡ low'
    → number_in (λ r. r.asked) low rs ≡ a → number_in (λ r. r.done) low rs ≡ d
    → counts_of (record { nodes = n; low = low; rows = rs })
    ≡ record { nodes = m; low = low'; numbers = record { asked = a; done = d } }
counts-are n m low low' rs a d nodes same asked done =
    λ i. record { nodes = nodes i; low = same i; numbers = record { asked = asked i; done = done i } }

-- a row has a number for each node
pub length_numbers : (n : ℕ) (f : ℕ → ℕ) → length (numbers_of n f) ≡ n
length_numbers zero f = refl
length_numbers (suc n) f = omega (arith, length-append (numbers_of n f) (f n ∷ []), length_numbers n f)
