-- The numbers of a schedule, one after the other: those that are given, and then the draws of a seed.
use Rattle.std.specs.Prelude.{ℕ, List, [], ◌∷◌, Option}
use Rattle.std.specs.Option.{option_map}
use Rattle.tv_base.specs.Draws.{next_draw}
use Rattle.world_model.specs.Scheduled.{number_for}

-- the numbers that are left of those given, and the number that the next draw is made of
pub record PicksData : Type 0 where
  pub given : List ℕ
  pub seed : Option ℕ

-- the number that comes next
abbrev pub next_number : PicksData → ℕ
next_number p = number_for p.given p.seed 0

-- what is left after it
abbrev pub picks_left : List ℕ → Option ℕ → PicksData
picks_left (k ∷ ks) seed = record { given = ks; seed = seed }
picks_left [] seed = record { given = []; seed = option_map next_draw seed }

abbrev pub after_number : PicksData → PicksData
after_number p = picks_left p.given p.seed
