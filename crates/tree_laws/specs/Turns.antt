-- Turns of subtransactions, in runs of every script: one is done, or it votes.
use Rattle.std.specs.Prelude.{ℕ, ◌==◌, ◌&&◌, ◌+◌, ◌<◌, ◌≤◌, ◌≡◌, List, [], ◌∷◌, take, Some}
use Rattle.letter_types.specs.declared.acts.Act.{Act}
use Rattle.letter_types.specs.declared.acts.Act.TheVariants.{Did, Voted}
use Rattle.letter_types.specs.declared.entries.Entry.{Entry}
use Rattle.tx_trees.specs.ScriptData.{ScriptData, sub_at}
use Rattle.tx_trees.specs.Valid.{IsValid}
use Rattle.tx_trees.specs.declared.parts.Sub.{Sub}
use Rattle.world_model.specs.AllApt.{AllApt}
use Rattle.world_model.specs.Counts.{one_if, tally}
use Rattle.world_model.specs.Runs.{IsStepRun, client_in}
use Rattle.tree_laws.specs.Dids.{births, letters_asking, roots_sent}

-- the act of subtransaction k of transaction t
abbrev pub has_turn : ℕ → ℕ → Act → ℕ
has_turn t k (Did u j values) = one_if ((u.0 == t) && (j.0 == k))
has_turn t k (Voted u j vote) = one_if ((u.0 == t) && (j.0 == k))
has_turn t k _ = 0

-- how many turns subtransaction k of transaction t has had
abbrev pub turns : List Entry → ℕ → ℕ → ℕ
turns [] t k = 0
turns (e ∷ past) t k = tally (has_turn t k) e.acts + turns past t k

-- if each message that came to a node brought an enabled one: a root is asked for or has had its turn as often as its
-- row was submitted
abbrev pub RootsHaveTurns : Type 0
RootsHaveTurns = (s : ScriptData) (past : List Entry) (t : ℕ) → IsValid s → AllApt s past → IsStepRun s past
    → letters_asking s past t 0 + turns past t 0 ≡ roots_sent t (take (client_in s past).next s.rows)

-- another subtransaction is so as often as its parent has had a turn
abbrev pub SubsHaveTurns : Type 0
SubsHaveTurns = (s : ScriptData) (past : List Entry) (t k : ℕ) (x : Sub) → IsValid s → AllApt s past → IsStepRun s past
    → sub_at s t k ≡ Some x → 0 < k → letters_asking s past t k + turns past t k ≡ turns past t x.parent.0

-- so each is asked for or has had its turn at most once
abbrev pub TurnsComeOnce : Type 0
TurnsComeOnce = (s : ScriptData) (past : List Entry) (t k : ℕ) (x : Sub) → IsValid s → AllApt s past → IsStepRun s past
    → sub_at s t k ≡ Some x → letters_asking s past t k + turns past t k ≤ 1

-- and a transaction is born if its root has its turn
abbrev pub BirthsAreTurns : Type 0
BirthsAreTurns = (s : ScriptData) (past : List Entry) (t : ℕ) → IsValid s → AllApt s past → IsStepRun s past
    → births past t ≡ turns past t 0
