-- Tests that hold: of a number and itself, and each of two where both do. (What `std.proofs.lemmas.Bool` lacks.)
use Rattle.std.proofs.Common.{◌≡◌, ◌≤◌, ◌==◌, ◌&&◌, nat_le, ℕ, Bool, true, refl, false, ◌||◌}
use Rattle.std.proofs.lemmas.Bool.{and_parts, eq-eqb, leb-true}

pub same_test : (n : ℕ) → (n == n) ≡ true
same_test n = eq-eqb n n refl

pub left_true : (a b : Bool) → (a && b) ≡ true → a ≡ true
left_true a b is = (and_parts a b is).0

pub right_true : (a b : Bool) → (a && b) ≡ true → b ≡ true
right_true a b is = (and_parts a b is).1

-- the first of two tests, of a number that is at most another
pub at_most : (m most : ℕ) (b : Bool) → (nat_le m most && b) ≡ true → m ≤ most
at_most m most b is = leb-true m most (left_true (nat_le m most) b is)

-- a test that never holds beside another
pub or_none : (a b : Bool) → b ≡ ((a && false) || b)
or_none true b = refl
or_none false b = refl
