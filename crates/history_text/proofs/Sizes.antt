-- How large the number is that a list of digits spells.
use Rattle.std.proofs.Common.{◌≡◌, ◌+◌, ◌*◌, ◌<◌, ◌≤◌, ◌^◌, ◌∷◌, [], List, true, ℕ, suc, length, ap, arith}
use Rattle.std.specs.Char.{is_ascii_digit}
use Rattle.std.specs.List.{list_all, fold}
use Rattle.std.proofs.Math.Nat.{mul-le-mul_left, pow-le-pow_right, pow-succ'}
use Rattle.tv_base.specs.Digits.{decimal_value}
use Rattle.tv_base.proofs.Truths.{left_true, right_true}
use Rattle.history_text.proofs.Digits.{digit_bounds, more_value}

-- one step of the walk over digits
one_step : (v m p : ℕ) → m + 1 ≤ (v + 1) * 10 → (m + 1) * p ≤ (v + 1) * (10 * p)
one_step v m p less = omega (arith, mul-le-mul_left p less)

-- digits behind v
below : (v : ℕ) (ds : List ℕ) → list_all is_ascii_digit ds ≡ true → fold more_value v ds < (v + 1) * 10 ^ length ds
below v [] h = omega arith
below v (d ∷ ds) h =
    let b = digit_bounds d (left_true (is_ascii_digit d) (list_all is_ascii_digit ds) h) in
    let more = below (more_value v d) ds (right_true (is_ascii_digit d) (list_all is_ascii_digit ds) h) in
    let q : (v + 1) * 10 ^ suc (length ds) ≡ (v + 1) * (10 * 10 ^ length ds) = ap (λ (n : ℕ). (v + 1) * n) (pow-succ' 10 (length ds)) in
    omega (arith, more, one_step v (more_value v d) (10 ^ length ds) (omega (arith, b.0, b.1)), q)

-- the number of digits of which there are at most so many
pub small_value : (most : ℕ) (ds : List ℕ) → list_all is_ascii_digit ds ≡ true → length ds ≤ most → decimal_value ds < 10 ^ most
small_value most ds h few =
    omega (arith, below 0 ds h, pow-le-pow_right {n = 10} (omega arith) {i = length ds} {j = most} few)
