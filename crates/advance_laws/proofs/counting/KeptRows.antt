-- A round with one more row, by the number of its sender.
use Rattle.std.specs.Prelude.{ℕ, List, slice_set, Some}
use Rattle.phase_out.specs.Rounds.{RoundData}

-- the round with a row of completions, or of requests, in place of an earlier one of its sender
abbrev pub with_done : ℕ → List ℕ → RoundData → RoundData
with_done from row r = record r { dones = slice_set r.dones from (Some row) }

abbrev pub with_asked : ℕ → List ℕ → RoundData → RoundData
with_asked from row r = record r { askeds = slice_set r.askeds from (Some row) }
