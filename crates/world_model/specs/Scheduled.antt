-- A history whose messages were taken by a schedule: the script's picks, then the draws of a seed, then the oldest.
use Rattle.std.specs.Prelude.{if◌then◌else◌, ℕ, zero, suc, ◌/◌, ◌%◌, ◌^◌, ◌-◌, ◌≡◌, nat_lt, List, [], length, take, reverse, Option, Some, None, slice_get, slice_index}
use Rattle.tv_base.specs.Draws.{next_draw}
use Rattle.letter_types.specs.declared.entries.Entry.{Entry}
use Rattle.letter_types.specs.declared.entries.Letter.{Letter}
use Rattle.script_parts.specs.ScriptData.{ScriptData}
use Rattle.world_model.specs.Runs.{in_flight}

-- the number after the first k + 1 draws from a seed
abbrev pub drawn_from : ℕ → ℕ → ℕ
drawn_from x zero = next_draw x
drawn_from x (suc k) = next_draw (drawn_from x k)

-- the draw of number k from a seed, from 0; without a seed it is 0
abbrev pub draw : Option ℕ → ℕ → ℕ
draw None k = 0
draw (Some x) k = drawn_from x k / 2 ^ 33

-- the number of the schedule for entry k, from 0: the picks come first
abbrev pub number_for : List ℕ → Option ℕ → ℕ → ℕ
number_for picks seed k = if nat_lt k (length picks) then slice_index picks k else draw seed (k - length picks)

-- the messages in flight before entry k of a history, in order of id
abbrev pub waiting_at : ScriptData → List Entry → ℕ → List Letter
waiting_at s h k = in_flight s (reverse (take k h))

-- each entry took the message at the place of its number, modulo as many as were in flight; and none is left in the end
pub record IsScheduled (s : ScriptData) (seed : Option ℕ) (h : List Entry) : Type 0 where
  pub places : (k : ℕ) (e : Entry) → slice_get h k ≡ Some e
      → slice_get (waiting_at s h k) (number_for s.picks seed k % length (waiting_at s h k)) ≡ Some e.took
  pub left : in_flight s (reverse h) ≡ []
