-- Counters in runs of every script.
use Rattle.std.specs.Prelude.{ℕ, ◌+◌, ◌*◌, ◌<◌, ◌≤◌, ◌≡◌, List, length}
use Rattle.letter_types.specs.declared.entries.Entry.{Entry}
use Rattle.pair_counters.specs.Numbers.{AllBelow}
use Rattle.tx_trees.specs.ScriptData.{ScriptData}
use Rattle.tx_trees.specs.Valid.{IsValid}
use Rattle.world_model.specs.AllApt.{AllApt}
use Rattle.world_model.specs.Runs.{IsStepRun, node_in}
use Rattle.world_model.specs.Taking.{MOST_COUNTED}
use Rattle.advance_laws.specs.Balance.{out}

-- if each message that came to a node brought an enabled one: in a version that both still count, the requests of p to
-- q are the completions of q from p and the counted messages that have still to be done
abbrev pub AptRunsBalance : Type 0
AptRunsBalance = (s : ScriptData) (past : List Entry) (v p q : ℕ) → IsValid s → AllApt s past → IsStepRun s past
    → p < s.nodes → q < s.nodes → (node_in s past p).turns.low.0 ≤ v → (node_in s past q).turns.low.0 ≤ v
    → (node_in s past p).counts.asked v q ≡ (node_in s past q).counts.done v p + out s past v p q

-- whatever messages came: a node counts no more than all entries count at most
abbrev pub CountsAreSmall : Type 0
CountsAreSmall = (s : ScriptData) (past : List Entry) (p : ℕ) → IsValid s → p < s.nodes
    → AllBelow (MOST_COUNTED * length past + 1) (node_in s past p).counts
