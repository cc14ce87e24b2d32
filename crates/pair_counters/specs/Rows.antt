-- What is kept of the numbers: three rows, used in turn.
use Rattle.std.specs.Prelude.{ℕ, Bool, ◌+◌, ◌%◌, ◌&&◌, nat_le, List, Option, Some, None, if◌then◌else◌, slice_index, slice_get}
use Rattle.pair_counters.specs.declared.counters.CounterRow.{CounterRow}
use Rattle.pair_counters.specs.Counts.{Counts}

-- the number of nodes, the lowest version that is counted, and the rows
pub record CounterRows : Type 0 where
  pub nodes : ℕ
  pub low : ℕ
  pub rows : List CounterRow

-- version v is one of the three from low on
abbrev pub is_kept : ℕ → ℕ → Bool
is_kept low v = nat_le low v && nat_le v (low + 2)

-- a row's number at a node: the numbers of the row are those that f gives
abbrev pub number_in_row : (CounterRow → List ℕ) → ℕ → Option CounterRow → ℕ
number_in_row f q None = 0
number_in_row f q (Some r) = slice_index (f r) q

-- a version's number at a node
abbrev pub number_in : (CounterRow → List ℕ) → ℕ → List CounterRow → ℕ → ℕ → ℕ
number_in f low rs v q = if is_kept low v then number_in_row f q (slice_get rs (v % 3)) else 0

-- the requests to a node, and the completions from it
abbrev pub asked_in : ℕ → List CounterRow → ℕ → ℕ → ℕ
asked_in low rs = number_in (λ r. r.asked) low rs

abbrev pub done_in : ℕ → List CounterRow → ℕ → ℕ → ℕ
done_in low rs = number_in (λ r. r.done) low rs

-- what the rows count
abbrev pub counts_of : CounterRows → Counts
counts_of c =
    record {
      nodes = c.nodes;
      low = c.low;
      numbers = record { asked = asked_in c.low c.rows; done = done_in c.low c.rows };
    }
