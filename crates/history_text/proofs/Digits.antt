-- Decimal digits without a leading zero are what is printed of the number that they spell.
use Rattle.std.proofs.Common.{◌≡◌, ◌+◌, ◌*◌, ◌-◌, ◌/◌, ◌%◌, ◌<◌, ◌≤◌, ◌^◌, ◌∙◌, ◌∷◌, ◌++◌, [], List, true, ℕ, length, refl, sym, ap, arith, append_assoc}
use Rattle.std.specs.Prelude.{◌||◌, ◌==◌, not, decimal}
use Rattle.std.specs.Char.{is_ascii_digit}
use Rattle.std.specs.List.{list_all, fold}
use Rattle.std.proofs.lemmas.Bool.Decides.{nat_tests}
use Rattle.std.proofs.lemmas.Fmt.{decimal_by_steps_wide, decimal_digit, decimal_step_wide}
use Rattle.std.proofs.lemmas.List.{append-nil}
use Rattle.tv_base.specs.Digits.{decimal_value}
use Rattle.tv_base.proofs.Decimals.{spells}
use Rattle.tv_base.proofs.Truths.{left_true, right_true}
use Rattle.history_text.specs.Numbers.{is_plain_number}

-- one digit more at the end
abbrev pub more_value : ℕ → ℕ → ℕ
more_value value b = value * 10 + (b - 48)

pub digit_bounds : (b : ℕ) → is_ascii_digit b ≡ true → (48 ≤ b) × (b ≤ 57)
digit_bounds b h = (grind (arith, nat_tests), grind (arith, nat_tests))

grows : (m : ℕ) (ds : List ℕ) → m ≤ fold more_value m ds
grows m [] = omega arith
grows m (d ∷ ds) = omega (arith, grows (more_value m d) ds)

-- digits behind those of a number that isn't zero
behind : (n : ℕ) (ds : List ℕ) → 1 ≤ n → list_all is_ascii_digit ds ≡ true → fold more_value n ds < 10 ^ 64 → decimal n ++ ds ≡ decimal (fold more_value n ds)
behind n [] some digits small = append-nil (decimal n)
behind n (d ∷ ds) some digits small =
    let b = digit_bounds d (left_true (is_ascii_digit d) (list_all is_ascii_digit ds) digits) in
    let m : ℕ = more_value n d in
    let less : m < 10 ^ 64 = omega (arith, grows (more_value n d) ds, small) in
    let front : m / 10 ≡ n = omega (arith, b.0, b.1) in
    let last : 48 + m % 10 ≡ d = omega (arith, b.0, b.1) in
    let step : decimal m ≡ decimal n ++ (d ∷ []) =
    decimal_step_wide m (omega (arith, some)) less ∙ ap (λ k. decimal k ++ ((48 + m % 10) ∷ [])) front ∙ ap (λ k. decimal n ++ (k ∷ [])) last in
    let more = behind m ds (omega (arith, some)) (right_true (is_ascii_digit d) (list_all is_ascii_digit ds) digits) small in
    sym (append_assoc (decimal n) (d ∷ []) ds) ∙ ap (λ (x : List ℕ). x ++ ds) (sym step) ∙ more

-- a first digit, and what comes after it
first_then : (d v : ℕ) (ds : List ℕ) → v + 48 ≡ d → v < 10 → list_all is_ascii_digit ds ≡ true → (not (d == 48) || length ds == 0) ≡ true → fold more_value v ds < 10 ^ 64 → d ∷ ds ≡ decimal (fold more_value v ds)
first_then d v [] is low digits plain small =
    let n : 48 + v ≡ d = omega arith in
    ap (λ (k : ℕ). k ∷ []) (sym n) ∙ sym (decimal_digit v low)
first_then d v (e ∷ es) is low digits plain small =
    let n : 48 + v ≡ d = omega arith in
    let some : 1 ≤ v = grind (arith, nat_tests) in
    let one : decimal v ≡ d ∷ [] = decimal_digit v low ∙ ap (λ (k : ℕ). k ∷ []) n in
    ap (λ (x : List ℕ). x ++ (e ∷ es)) (sym one) ∙ behind v (e ∷ es) some digits small

-- so they are its print
pub spelled : (ds : List ℕ) → is_plain_number ds ≡ true → decimal_value ds < 10 ^ 64 → ds ≡ decimal (decimal_value ds)
spelled [] plain small = cc
spelled (d ∷ ds) plain small =
    let digits = left_true (list_all is_ascii_digit (d ∷ ds)) (not (d == 48) || length ds == 0) plain in
    let first = digit_bounds d (left_true (is_ascii_digit d) (list_all is_ascii_digit ds) digits) in
    first_then d (0 * 10 + (d - 48)) ds (omega (arith, first.0)) (omega (arith, first.1)) (right_true (is_ascii_digit d) (list_all is_ascii_digit ds) digits) (right_true (list_all is_ascii_digit (d ∷ ds)) (not (d == 48) || length ds == 0) plain) small

-- how the digits of n begin
record Begun (n : ℕ) (ds : List ℕ) : Type 0 where
  pub first : ℕ
  pub more : List ℕ
  pub is : ds ≡ first ∷ more
  pub some : 0 < n → 49 ≤ first
  pub one : n < 10 → more ≡ []

begun : (n : ℕ) → n < 10 ^ 64 → Begun n (decimal n)
begun =
    decimal_by_steps_wide Begun (λ n h. record { first = 48 + n; more = []; is = refl; some = λ p. omega arith; one = λ p. refl })
    (λ n ds h b. record {
      first = b.first;
      more = b.more ++ ((48 + n % 10) ∷ []);
      is = ap (λ (x : List ℕ). x ++ ((48 + n % 10) ∷ [])) b.is;
      some = λ p. b.some (omega arith);
      one = λ p. absurd (omega arith);
    })

plain_first : (n d : ℕ) (ds : List ℕ) → list_all is_ascii_digit (d ∷ ds) ≡ true → (0 < n → 49 ≤ d) → (n < 10 → ds ≡ []) → is_plain_number (d ∷ ds) ≡ true
plain_first n d [] digits some one = rw digits (grind (arith, nat_tests))
plain_first n d (e ∷ es) digits some one =
    let large : 10 ≤ n = grind (arith, one) in
    let up : 49 ≤ d = some (omega arith) in
    rw digits (grind (arith, nat_tests))

-- what is printed of a number has no leading zero
pub prints_plain : (n : ℕ) → n < 10 ^ 64 → is_plain_number (decimal n) ≡ true
prints_plain n h =
    let b = begun n h in
    let digits : list_all is_ascii_digit (b.first ∷ b.more) ≡ true = ap (list_all is_ascii_digit) (sym b.is) ∙ (spells n h).digits in
    ap is_plain_number b.is ∙ plain_first n b.first b.more digits b.some b.one

-- numbers of one print are one
pub decimal_one : (m n : ℕ) → m < 10 ^ 64 → n < 10 ^ 64 → decimal m ≡ decimal n → m ≡ n
decimal_one m n hm hn e = sym (spells m hm).value ∙ ap decimal_value e ∙ (spells n hn).value
