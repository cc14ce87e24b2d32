-- Orderings of numbers, and of one thing after another.
use Rattle.std.proofs.Common.{◌≡◌, ◌&&◌, eqb, ℕ, true, false, refl, arith}
use Rattle.std.specs.declared.cmp.Ordering.{Ordering}
use Rattle.std.specs.declared.cmp.Ordering.TheVariants.{Less, Equal, Greater}
use Rattle.std.specs.Ordering.{nat_cmp, ordering_then, is_eq}
use Rattle.std.proofs.lemmas.Bool.Decides.{nat_tests}

pub is_eq-then : (p q : Ordering) → is_eq (ordering_then p q) ≡ (is_eq p && is_eq q)
is_eq-then Less q = refl
is_eq-then Equal q = refl
is_eq-then Greater q = refl

pub then_first : (p q : Ordering) → ordering_then p q ≡ Equal → p ≡ Equal
then_first Less q e = e
then_first Equal q e = refl
then_first Greater q e = e

pub then_second : (p q : Ordering) → ordering_then p q ≡ Equal → q ≡ Equal
then_second Less q e = let no : Less ≡ Equal = e in cc
then_second Equal q e = e
then_second Greater q e = let no : Greater ≡ Equal = e in cc

pub is_eq-true : (r : Ordering) → is_eq r ≡ true → r ≡ Equal
is_eq-true Less e = let no : false ≡ true = e in cc
is_eq-true Equal e = refl
is_eq-true Greater e = let no : false ≡ true = e in cc

pub is_eq-number : (a b : ℕ) → is_eq (nat_cmp a b) ≡ eqb b a
is_eq-number a b = grind (arith, nat_tests)

pub is_eq-back : (a b : ℕ) → is_eq (nat_cmp a b) ≡ eqb a b
is_eq-back a b = grind (arith, nat_tests)
