-- How much is left to do for transactions.
use Rattle.std.specs.Prelude.{ℕ, Bool, false, not, ◌==◌, ◌&&◌, ◌+◌, List, take, get_or}
use Rattle.letter_types.specs.declared.bodies.Body.{Body}
use Rattle.letter_types.specs.declared.bodies.Body.TheVariants.{Go, Nudge, Sub as SubLetter, Done, Decide, Decided}
use Rattle.letter_types.specs.declared.entries.Entry.{Entry}
use Rattle.tx_trees.specs.ScriptData.{ScriptData}
use Rattle.tx_trees.specs.declared.parts.ScriptRow.{ScriptRow}
use Rattle.tx_trees.specs.declared.parts.ScriptRow.TheVariants.{Tree as TreeRow, Settle as SettleRow}
use Rattle.world_model.specs.Client.{Client}
use Rattle.world_model.specs.Counts.{one_if, tally}
use Rattle.world_model.specs.Runs.{client_in}
use Rattle.advance_laws.specs.Phases.{count_in_flight}
use Rattle.tree_laws.specs.Turns.{turns}

-- a row of a tree that is born, and whose answer the client hasn't heard
abbrev pub unanswered : List Entry → List Bool → ScriptRow → ℕ
unanswered past answered (TreeRow t) = one_if (not (turns past t.0 0 == 0) && not (get_or answered t.0 false))
unanswered past answered SettleRow = 0
unanswered past answered _ = 0

-- how many trees are born whose answer this client hasn't heard
abbrev pub left_of : ScriptData → List Entry → Client → ℕ
left_of s past c = tally (unanswered past c.answered) (take c.next s.rows)

abbrev pub left : ScriptData → List Entry → ℕ
left s past = left_of s past (client_in s past)

-- a letter that tells the coordinator of an answer
abbrev pub nudges : Body → ℕ
nudges Nudge = 1
nudges Go = 0
nudges _ = 0

-- a letter by which a tree that is born goes on
abbrev pub of_trees : Body → ℕ
of_trees (SubLetter t k v) = 1
of_trees (Done t k v notice) = 1
of_trees (Decide t v commit) = 1
of_trees (Decided t v) = 1
of_trees Go = 0
of_trees _ = 0

-- the nudges in flight, and the trees that are born and not answered
abbrev pub busy : ScriptData → List Entry → ℕ
busy s past = count_in_flight nudges s past + left s past
