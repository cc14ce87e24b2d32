-- A number that is written in decimal is read as itself.
use Rattle.std.proofs.Common.{◌≡◌, ◌<◌, ◌^◌, ◌∷◌, [], List, Bool, true, false, ℕ, suc, length, refl, arith}
use Rattle.std.specs.Prelude.{◌&&◌, ◌==◌, nat_le, ℤ, pos, negsuc, ◌-ℤ◌, decimal, unsigned_abs}
use Rattle.std.specs.Fmt.{signed_decimal}
use Rattle.std.specs.Char.{is_ascii_digit}
use Rattle.std.specs.List.{list_all}
use Rattle.std.proofs.lemmas.Bool.{le-leb}
use Rattle.std.proofs.lemmas.Bool.Decides.{nat_tests}
use Rattle.std.proofs.lemmas.Int.{ints}
use Rattle.std.proofs.lemmas.Fmt.{length-decimal-le_wide}
use Rattle.tv_base.proofs.Decimals.{spells}
use Rattle.script_reader.specs.Numbers.{amount_value, digits_of, is_amount, is_negative, is_number}
use Rattle.tv_base.specs.Digits.{decimal_value}

-- the digits of a number of up to 32 digits
pub number_read : (n : ℕ) → n < 10 ^ 32 → is_number (decimal n) ≡ true
number_read n h =
    let s = spells n (omega arith) in
    let low : nat_le 1 (length (decimal n)) ≡ true = le-leb 1 (length (decimal n)) s.some in
    let high : nat_le (length (decimal n)) 32 ≡ true = le-leb (length (decimal n)) 32 (length-decimal-le_wide 32 n (omega arith) h (omega arith)) in
    rw (low, high, s.digits) refl

-- what is written of a number is digits
pub digits_read : (n : ℕ) → n < 10 ^ 64 → list_all is_ascii_digit (decimal n) ≡ true
digits_read n h = (spells n h).digits

-- and they have its value
pub value_read : (n : ℕ) → n < 10 ^ 64 → decimal_value (decimal n) ≡ n
value_read n h = (spells n h).value

-- a digit is no minus sign
not_minus : (b : ℕ) (x : Bool) → (is_ascii_digit b && x) ≡ true → (b == 45) ≡ false
not_minus b x h = grind (arith, nat_tests)

-- digits are not the bytes of an amount below zero
first_digit : (ds : List ℕ) → list_all is_ascii_digit ds ≡ true → (is_negative ds ≡ false) × (digits_of ds ≡ ds)
first_digit [] h = (refl, refl)
first_digit (b ∷ bs) h = rw (not_minus b (list_all is_ascii_digit bs) h) (refl, refl)

-- nothing less a number
below_zero : (n : ℕ) → pos 0 -ℤ pos (suc n) ≡ negsuc n
below_zero n = omega (arith, ints)

-- an amount of up to 32 digits
pub amount_read : (a : ℤ) → unsigned_abs a < 10 ^ 32 → (is_amount (signed_decimal a) ≡ true) × (amount_value (signed_decimal a) ≡ a)
amount_read (pos n) h =
    let s = spells n (omega arith) in
    let f = first_digit (decimal n) s.digits in
    (rw f.1 (number_read n h), rw (f.0, f.1, s.value) refl)
amount_read (negsuc n) h =
    let s = spells (suc n) (omega arith) in
    (number_read (suc n) h, rw s.value (below_zero n))
