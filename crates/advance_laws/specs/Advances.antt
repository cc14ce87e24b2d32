-- Where the advancements are that the client has asked for.
use Rattle.std.specs.Prelude.{ℕ, ◌+◌, ◌*◌, ◌≤◌, ◌≡◌, List, length, take}
use Rattle.letter_types.specs.declared.bodies.Body.{Body}
use Rattle.letter_types.specs.declared.bodies.Body.TheVariants.{Advance, Advanced}
use Rattle.letter_types.specs.declared.entries.Entry.{Entry}
use Rattle.tx_trees.specs.Counts.{advances_in}
use Rattle.tx_trees.specs.ScriptData.{ScriptData}
use Rattle.world_model.specs.declared.phase.Phase.{Phase}
use Rattle.world_model.specs.declared.phase.Phase.TheVariants.{Idle}
use Rattle.world_model.specs.Runs.{client_in, coordinator_in}
use Rattle.advance_laws.specs.Phases.{count_in_flight}

-- an advancement is in progress
abbrev pub running : Phase → ℕ
running Idle = 0
running _ = 1

-- the messages that ask for an advancement
abbrev pub is_advance_letter : Body → ℕ
is_advance_letter Advance = 1
is_advance_letter _ = 0

-- the messages that tell that one has ended
abbrev pub is_advanced : Body → ℕ
is_advanced (Advanced v) = 1
is_advanced _ = 0

-- how many advancements the client has asked for
abbrev pub asked_for : ScriptData → List Entry → ℕ
asked_for s past = advances_in (take (client_in s past).next s.rows)

-- each is asked for in a message, waits, is in progress or has ended; and of each that has ended the client has heard,
-- or will by a message in flight. The update version is one above the number of those that have ended
pub record AdvancesAreKept (s : ScriptData) (past : List Entry) : Type 0 where
  pub asked : count_in_flight is_advance_letter s past + (coordinator_in s past).waits + running (coordinator_in s past).phase
      + (coordinator_in s past).update
      ≡ asked_for s past + 1
  pub ended : count_in_flight is_advanced s past + (client_in s past).ended + 1 ≡ (coordinator_in s past).update

-- rounds are two for each advancement of the script and one for each of its transactions, at most
abbrev pub RoundsAreFew : ScriptData → List Entry → Type 0
RoundsAreFew s past = (coordinator_in s past).count.number ≤ 2 * advances_in s.rows + length s.trees
