-- Numbers that a test takes or leaves, and one that stops at its type's end.
use Rattle.std.proofs.Common.{Bool, arith, false, if◌then◌else◌, not, refl, true, ℕ, ◌+◌, ◌==◌, ◌≡◌, ◌≤◌}
use Rattle.std.proofs.lemmas.Bool.Decides.{nat_tests}
use Rattle.tv_base.specs.Outside.{one_more}

pub if_most : (b : Bool) (n : ℕ) → (if b then n else 0) ≤ n
if_most true n = omega arith
if_most false n = omega arith

pub if_zero : (b : Bool) (n : ℕ) → n ≡ 0 → (if b then n else 0) ≡ 0
if_zero true n none = none
if_zero false n none = refl

pub if_within : (b : Bool) (n m : ℕ) → n ≤ m → (if b then n else 0) ≤ m
if_within true n m le = le
if_within false n m le = omega arith

pub unless_most : (b : Bool) (n : ℕ) → (if b then 0 else n) ≤ n
unless_most true n = omega arith
unless_most false n = omega arith

pub not_none : (n : ℕ) → 1 ≤ n → not (n == 0) ≡ true
not_none n some = grind (arith, nat_tests)

-- a number that stops at its type's end
pub one_more_most : (n : ℕ) → one_more n ≤ n + 1
one_more_most n = omega arith
