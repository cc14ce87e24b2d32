-- What a run is once no message is left.
use Rattle.std.specs.Prelude.{◌+◌, ◌*◌, ◌≡◌, ◌≤◌, false, List, [], length, reverse}
use Rattle.letter_types.specs.declared.entries.Entry.{Entry}
use Rattle.tx_trees.specs.Counts.{advances_in, has_strict, is_lossy}
use Rattle.tx_trees.specs.ScriptData.{ScriptData}
use Rattle.world_model.specs.Runs.{in_flight}
use Rattle.tree_laws.specs.Entries.{entries_most, entries_of, rounds_in}
use Rattle.headline.specs.Headline.{HasHeadline}

-- the run has the headline, and no message is left: it has at most that many entries, and if the coordinator remembers
-- and no transaction is strict just as many as the script and the rounds of its advancements make; these are at most
-- two for each advancement and one for each transaction, and without advancements none
pub record HasEnded (s : ScriptData) (h : List Entry) : Type 0 where
  pub headline : HasHeadline s h
  pub left : in_flight s (reverse h) ≡ []
  pub most : length h ≤ entries_most s
  pub entries : is_lossy s ≡ false → has_strict s ≡ false → length h ≡ entries_of s (rounds_in s h)
  pub rounds : is_lossy s ≡ false → rounds_in s h ≤ 2 * advances_in s.rows + length s.trees
  pub no_rounds : is_lossy s ≡ false → advances_in s.rows ≡ 0 → rounds_in s h ≡ 0
