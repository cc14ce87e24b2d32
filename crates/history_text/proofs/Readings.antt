-- What is read of a number or an amount is the one that is printed so.
use Rattle.std.proofs.Common.{◌≡◌, ◌<◌, ◌≤◌, ◌^◌, ◌∙◌, ◌∷◌, [], List, true, false, ℕ, suc, length, refl, sym, ap, arith}
use Rattle.std.specs.Prelude.{◌==◌, ◌||◌, not, decimal, ℤ, pos, negsuc, Option, None}
use Rattle.std.specs.Fmt.{signed_decimal}
use Rattle.std.specs.Char.{is_ascii_digit}
use Rattle.std.specs.List.{list_all}
use Rattle.std.proofs.lemmas.Fmt.{length-decimal-le_wide}
use Rattle.std.proofs.Math.Nat.{pow-le-pow_right}
use Rattle.tv_base.proofs.Truths.{left_true}
use Rattle.tv_base.specs.Digits.{decimal_value}
use Rattle.history_text.specs.Printable.{IsAmount}
use Rattle.history_text.specs.Exact.{IsReadBack}
use Rattle.history_text.specs.Numbers.{IsSize, is_plain_number}
use Rattle.history_text.proofs.Digits.{decimal_one, prints_plain, spelled}
use Rattle.history_text.proofs.Sizes.{small_value}

pub plain_digits : (bytes : List ℕ) → is_plain_number bytes ≡ true → list_all is_ascii_digit bytes ≡ true
plain_digits [] plain = refl
plain_digits (d ∷ ds) plain = left_true (list_all is_ascii_digit (d ∷ ds)) (not (d == 48) || length ds == 0) plain

-- too many bytes are no number of so few digits
pub too_long : (bytes : List ℕ) (most : ℕ) → 0 < most → most ≤ 31 → most < length bytes → IsReadBack decimal (λ n. n < 10 ^ most) bytes None
too_long bytes most some low long n is may =
    let wide = pow-le-pow_right {n = 10} (omega arith) {i = most} {j = 31} low in
    absurd (omega (arith, length-decimal-le_wide most n some may (omega (arith, wide)), ap length is))

-- nor are bytes that are no digits, or have a leading zero
pub not_plain : (bytes : List ℕ) (most : ℕ) → most ≤ 31 → is_plain_number bytes ≡ false → IsReadBack decimal (λ n. n < 10 ^ most) bytes None
not_plain bytes most low plain n is may =
    let wide = pow-le-pow_right {n = 10} (omega arith) {i = most} {j = 31} low in
    let yes : is_plain_number bytes ≡ true = ap is_plain_number is ∙ prints_plain n (omega (arith, wide)) in
    cc

-- digits without a leading zero, of which there are at most so many
pub is_plain : (bytes : List ℕ) (most v : ℕ) → v ≡ decimal_value bytes → most ≤ 31 → length bytes ≤ most → is_plain_number bytes ≡ true → (bytes ≡ decimal v) × (v < 10 ^ most)
is_plain bytes most v is low few plain =
    let less = small_value most bytes (plain_digits bytes plain) few in
    let wide = pow-le-pow_right {n = 10} (omega arith) {i = most} {j = 31} low in
    (spelled bytes plain (omega (arith, less, wide)) ∙ ap decimal (sym is), omega (arith, is, less))

-- a number that is too large is not the one that is printed so
pub none_other : (bytes : List ℕ) (n x : ℕ) → bytes ≡ decimal n → n < 10 ^ 31 → bytes ≡ decimal x → x < 10 ^ 31 → n ≡ x
none_other bytes n x is small same less = decimal_one n x (omega arith) (omega arith) (sym is ∙ same)

-- digits begin with no minus
pub no_minus : (n : ℕ) (digits : List ℕ) → n < 10 ^ 64 → 45 ∷ digits ≡ decimal n → ⊥
no_minus n digits small is =
    let yes : list_all is_ascii_digit (45 ∷ digits) ≡ true = ap (list_all is_ascii_digit) is ∙ plain_digits (decimal n) (prints_plain n small) in
    let no : is_ascii_digit 45 ≡ true = left_true (is_ascii_digit 45) (list_all is_ascii_digit digits) yes in
    cc

-- what is no size is no amount behind a minus
pub none_negative : (digits : List ℕ) (r : Option ℤ) → r ≡ None → ((n : ℕ) → digits ≡ decimal n → IsSize n → ⊥) → IsReadBack signed_decimal IsAmount (45 ∷ digits) r
none_negative digits r none only = rw none (by digits only)
  where
    by : (digits : List ℕ) → ((n : ℕ) → digits ≡ decimal n → IsSize n → ⊥) → (x : ℤ) → 45 ∷ digits ≡ signed_decimal x → IsAmount x → ⊥
    by digits only (pos n) is may = no_minus n digits (omega arith) is
    by digits only (negsuc n) is may = only (suc n) (cc) (omega arith)

-- no amount is a zero behind a minus
pub minus_zero : (digits : List ℕ) (n : ℕ) → digits ≡ decimal n → n ≡ 0 → (x : ℤ) → 45 ∷ digits ≡ signed_decimal x → IsAmount x → ⊥
minus_zero digits n is zero (pos m) same may = no_minus m digits (omega arith) same
minus_zero digits n is zero (negsuc m) same may =
    let tails : digits ≡ decimal (suc m) = cc in
    absurd (omega (arith, decimal_one n (suc m) (omega arith) (omega arith) (sym is ∙ tails)))
