-- A number is put in at its place.
use Rattle.std.proofs.Common.{◌≡◌, ◌≤◌, ℤ, List, [], ◌∷◌, length, arith}
use Rattle.std.specs.List.{insert}
use Rattle.std.proofs.lemmas.Grind.{common_steps}
use Rattle.std.proofs.lemmas.Int.{ints}
use Rattle.commute_ops.specs.Numbers.{with_number}
use Rattle.commute_ops.specs.inside.Ranks.{rank}

pub rank-le : (n : ℤ) (xs : List ℤ) → rank n xs ≤ length xs
rank-le n [] = omega arith
rank-le n (x ∷ xs) = let h = rank-le n xs in grind (arith, ints)

pub insert-rank : (n : ℤ) (xs : List ℤ) → insert xs (rank n xs) n ≡ with_number n xs
insert-rank n [] = grind (arith, common_steps)
insert-rank n (x ∷ xs) = let h = insert-rank n xs in grind (arith, ints, common_steps)

-- for the steps of `apply`
pub ruleset steps = (rank-le, insert-rank)
