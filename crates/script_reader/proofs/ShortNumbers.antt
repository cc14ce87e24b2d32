-- Numbers of few digits, read in one pass.
use Rattle.std.proofs.Common.{◌≡◌, ◌<◌, ◌≤◌, ◌+◌, ◌*◌, ◌^◌, ◌∙◌, ℕ, Bool, true, false, List, length, ap, sym, arith}
use Rattle.std.specs.Prelude.{◌&&◌, ◌-◌, drop, get_or, take}
use Rattle.std.specs.Char.{is_ascii_digit}
use Rattle.std.specs.List.{list_all}
use Rattle.std.proofs.lemmas.List.{drop_more}
use Rattle.std.proofs.lemmas.List.Sums.{fold_more}
use Rattle.std.proofs.Math.Nat.{pow-le-pow_right}
use Rattle.tv_base.specs.Digits.{decimal_value}

-- the value of one digit more
pub more_digits : (bytes : List ℕ) (i v d : ℕ) → i < length bytes → v ≡ decimal_value (take i bytes) → v * 10 + (get_or bytes i d - 48) ≡ decimal_value (take (i + 1) bytes)
more_digits bytes i v d lt so_far =
    ap (λ (n : ℕ). n * 10 + (get_or bytes i d - 48)) so_far
    ∙ sym (fold_more (λ (value : ℕ) (b : ℕ). value * 10 + (b - 48)) 0 bytes i d lt)

-- the bytes from a place on are digits, as far as the first and all later ones are
from_there : (bytes : List ℕ) (i d : ℕ) → i < length bytes → list_all is_ascii_digit (drop i bytes) ≡ (is_ascii_digit (get_or bytes i d) && list_all is_ascii_digit (drop (i + 1) bytes))
from_there bytes i d lt = ap (list_all is_ascii_digit) (drop_more bytes i d lt)

pub digit_passed : (bytes : List ℕ) (i d : ℕ) (all : Bool) → i < length bytes → is_ascii_digit (get_or bytes i d) ≡ true → list_all is_ascii_digit (drop i bytes) ≡ all → list_all is_ascii_digit (drop (i + 1) bytes) ≡ all
digit_passed bytes i d all lt digit rest =
    sym (from_there bytes i d lt ∙ ap (λ (b : Bool). b && list_all is_ascii_digit (drop (i + 1) bytes)) digit) ∙ rest

pub digit_missing : (bytes : List ℕ) (i d : ℕ) (all : Bool) → i < length bytes → is_ascii_digit (get_or bytes i d) ≡ false → list_all is_ascii_digit (drop i bytes) ≡ all → all ≡ false
digit_missing bytes i d all lt none rest =
    sym rest ∙ from_there bytes i d lt ∙ ap (λ (b : Bool). b && list_all is_ascii_digit (drop (i + 1) bytes)) none

-- before the last digit the value leaves room for one more in 64 bits
pub bounded : (v i : ℕ) → v + 23 ≤ 23 * 10 ^ i → i < 17 → v + 23 ≤ 23 * 10 ^ 16
bounded v i h lt =
    let less : i ≤ 16 = omega arith in
    let p : 10 ^ i ≤ 10 ^ 16 = pow-le-pow_right {n = 10} (omega arith) {i = i} {j = 16} less in
    omega arith

-- the value of all digits
pub small : (v i : ℕ) → v + 23 ≤ 23 * 10 ^ i → i ≤ 17 → v < 10 ^ 34
small v i h le =
    let p : 10 ^ i ≤ 10 ^ 17 = pow-le-pow_right {n = 10} (omega arith) {i = i} {j = 17} le in
    omega arith
