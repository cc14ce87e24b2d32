-- The numbers that are drawn from a seed.
use Rattle.std.specs.Prelude.{ℕ, ◌+◌, ◌*◌, ◌/◌, ◌%◌, ◌^◌}

-- the number after x
abbrev pub next_draw : ℕ → ℕ
next_draw x = (6364136223846793005 * x + 1442695040888963407) % 2 ^ 64

-- what a draw gives, whose number is x: its upper 31 bits
abbrev pub upper_bits : ℕ → ℕ
upper_bits x = x / 2 ^ 33
