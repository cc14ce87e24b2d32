-- What is written of a number in decimal spells it.
use Rattle.std.proofs.Common.{◌≡◌, ◌+◌, ◌*◌, ◌-◌, ◌/◌, ◌%◌, ◌<◌, ◌≤◌, ◌^◌, ◌∙◌, ◌∷◌, ◌++◌, [], List, true, ℕ, length, refl, arith, length-append}
use Rattle.std.specs.Prelude.{decimal, nat_le}
use Rattle.std.specs.Char.{is_ascii_digit}
use Rattle.std.specs.List.{list_all}
use Rattle.std.proofs.lemmas.Bool.{le-leb}
use Rattle.std.proofs.lemmas.Fmt.{decimal_by_steps_wide}
use Rattle.std.proofs.lemmas.List.Folds.{list_all-append}
use Rattle.std.proofs.lemmas.List.Sums.{fold-append}
use Rattle.tv_base.specs.Digits.{decimal_value}

-- the digits of n: they are digits, the first is there, and their value is n
pub record Spells (n : ℕ) (ds : List ℕ) : Type 0 where
  pub digits : list_all is_ascii_digit ds ≡ true
  pub some : 1 ≤ length ds
  pub value : decimal_value ds ≡ n

-- the byte of a digit is a digit
is_digit_of : (d : ℕ) → d < 10 → is_ascii_digit (48 + d) ≡ true
is_digit_of d h =
    let low : nat_le 48 (48 + d) ≡ true = le-leb 48 (48 + d) (omega arith) in
    let high : nat_le (48 + d) 57 ≡ true = le-leb (48 + d) 57 (omega arith) in
    rw (low, high) refl

-- a number below ten is one digit
one_digit : (n : ℕ) → n < 10 → Spells n ((48 + n) ∷ [])
one_digit n h = record { digits = rw (is_digit_of n h) refl; some = omega arith; value = omega arith }

-- one digit more
more_digits : (n : ℕ) (ds : List ℕ) → 10 ≤ n → Spells (n / 10) ds → Spells n (ds ++ ((48 + n % 10) ∷ []))
more_digits n ds h s =
    let d : is_ascii_digit (48 + n % 10) ≡ true = is_digit_of (n % 10) (omega arith) in
    let v : decimal_value (ds ++ ((48 + n % 10) ∷ [])) ≡ decimal_value ds * 10 + (48 + n % 10 - 48) =
    fold-append (λ value b. value * 10 + (b - 48)) 0 ds ((48 + n % 10) ∷ []) in
    record {
      digits = list_all-append is_ascii_digit ds ((48 + n % 10) ∷ []) ∙ rw (s.digits, d) refl;
      some = omega (arith, length-append ds ((48 + n % 10) ∷ []));
      value = v ∙ omega (arith, s.value);
    }

-- what is written of a number spells it
pub spells : (n : ℕ) → n < 10 ^ 64 → Spells n (decimal n)
spells = decimal_by_steps_wide Spells one_digit more_digits
