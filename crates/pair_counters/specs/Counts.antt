-- What a node counts.
use Rattle.std.specs.Prelude.{ℕ, ◌≡◌, ◌+◌, ◌<◌, ◌⊎◌, max}
use Rattle.pair_counters.specs.Numbers.{Numbers, none, asked_one, done_one, from_version}

-- the number of nodes, the lowest version that is counted, and the numbers
pub record Counts : Type 0 where
  pub nodes : ℕ
  pub low : ℕ
  pub numbers : Numbers

-- nothing counted, from version 0 on
abbrev pub no_counts : ℕ → Counts
no_counts n = record { nodes = n; low = 0; numbers = none }

-- one request of version v to node q more, and one completion from it
abbrev pub one_asked : ℕ → ℕ → Counts → Counts
one_asked v q c = record c { numbers = asked_one v q c.numbers }

abbrev pub one_done : ℕ → ℕ → Counts → Counts
one_done v q c = record c { numbers = done_one v q c.numbers }

-- nothing is kept of versions below v
abbrev pub dropped_below : ℕ → Counts → Counts
dropped_below v c =
    record {
      nodes = c.nodes;
      low = max c.low v;
      numbers = record { asked = from_version v c.numbers.asked; done = from_version v c.numbers.done };
    }

-- only the three versions from low on are counted
abbrev pub CountsThree : Counts → Type 0
CountsThree c = (v q : ℕ) → (v < c.low) ⊎ (c.low + 2 < v) → (c.numbers.asked v q ≡ 0) × (c.numbers.done v q ≡ 0)
