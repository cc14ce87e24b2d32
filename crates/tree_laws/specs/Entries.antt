-- How many entries a run has.
use Rattle.std.specs.Prelude.{if◌then◌else◌, ℕ, ◌+◌, ◌-◌, ◌*◌, List, length}
use Rattle.letter_types.specs.declared.entries.Entry.{Entry}
use Rattle.letter_types.specs.Letters.{own}
use Rattle.tv_base.specs.Sums.{tally}
use Rattle.tx_trees.specs.Counts.{has_strict, loses_in, strict_trees, update_subs}
use Rattle.tx_trees.specs.declared.parts.Tree.{Tree}
use Rattle.tx_trees.specs.declared.parts.TreeKind.{TreeKind}
use Rattle.tx_trees.specs.Adding.{advances_in, all_subs}
use Rattle.tx_trees.specs.ScriptData.{ScriptData, is_strict}
use Rattle.world_model.specs.Coordinator.{start_coordinator}
use Rattle.world_model.specs.Runs.{after}
use Rattle.world_model.specs.Tables.{coordinator_table}

-- the rounds that the coordinator has begun in a history
abbrev pub rounds_in : ScriptData → List Entry → ℕ
rounds_in s h = (after coordinator_table (start_coordinator s.nodes) (own s.nodes h)).count.number

-- the entries of a run to its end, with that many rounds: one takes Go; for each transaction one does its root, one
-- hears its answer and one hears the nudge; for each further subtransaction one does it and one takes down its notice;
-- for each advancement one asks for it and one hears its end, and each of its three phases tells every node and is told
-- by it; in each round every node is asked and tells twice
abbrev pub entries_of : ScriptData → ℕ → ℕ
entries_of s rounds =
    1 + 3 * length s.trees + 2 * (all_subs s.trees - length s.trees)
    + advances_in s.rows * (2 + 6 * s.nodes) + 4 * s.nodes * rounds

-- that many for a strict transaction
abbrev pub if_strict : TreeKind → ℕ → ℕ
if_strict kind n = if is_strict kind then n else 0

-- how many subtransactions the strict transactions have
abbrev pub strict_subs : List Tree → ℕ
strict_subs ts = tally (λ t. if_strict t.kind (length t.subs)) ts

-- the further entries of a run with strict transactions, at most: marks of an update transaction are let go at each
-- node that it visits; each node that a strict transaction visits is told what was decided, and tells that it was
-- applied; a subtransaction of an update transaction is woken once by each strict transaction, and the root of a strict
-- transaction once in each advancement
abbrev pub strict_entries : ScriptData → ℕ
strict_entries s =
    if has_strict s
    then update_subs s.trees + 2 * strict_subs s.trees + strict_trees s.trees * update_subs s.trees
    + strict_trees s.trees * advances_in s.rows
    else 0

-- the further entries of a run whose coordinator forgets, at most: each time it takes the message that makes it forget,
-- asks every node and the client, of which each takes the question and tells it, and tells the client how many
-- advancements have ended; and what was done of the advancement in progress may have to be done again, if no node has
-- come to it: two orders, each of which every node takes and answers, and a round
abbrev pub lossy_entries : ScriptData → ℕ
lossy_entries s = loses_in s.rows * (10 * s.nodes + 4)

-- the entries of a run, at most: rounds are two for each advancement and one for each transaction, at most, but for
-- those that are begun anew
abbrev pub entries_most : ScriptData → ℕ
entries_most s = entries_of s (2 * advances_in s.rows + length s.trees) + strict_entries s + lossy_entries s
