-- Messages that are sent are meant for their addressees. Parts of a list keep what holds of each.
use Rattle.std.proofs.Common.{ℕ, zero, suc, List, ◌∷◌, take, drop, []}
use Rattle.world_model.specs.Counts.{Each}

-- what holds of each holds of a prefix and of the rest
pub each_take : {X : Type 0} (P : X → Type 0) (n : ℕ) (xs : List X) → Each P xs → Each P (take n xs)
each_take P zero xs all = tt
each_take P (suc n) [] all = tt
each_take P (suc n) (x ∷ xs) all = (all.0, each_take P n xs all.1)

pub each_drop : {X : Type 0} (P : X → Type 0) (n : ℕ) (xs : List X) → Each P xs → Each P (drop n xs)
each_drop P zero xs all = all
each_drop P (suc n) [] all = tt
each_drop P (suc n) (x ∷ xs) all = each_drop P n xs all.1
