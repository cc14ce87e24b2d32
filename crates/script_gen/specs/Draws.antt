-- Draws from a seed, one after the other.
use Rattle.std.specs.Prelude.{ℕ, zero, suc}
use Rattle.tv_base.specs.Draws.{next_draw}

-- the number after k draws from x
abbrev pub after_draws : ℕ → ℕ → ℕ
after_draws zero x = x
after_draws (suc k) x = next_draw (after_draws k x)
