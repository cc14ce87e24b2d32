-- Locks of votes, in runs of every script.
use Rattle.std.specs.Prelude.{if◌then◌else◌, ℕ, true, false, ◌==◌, ◌+◌, ◌<◌, ◌≤◌, ◌≡◌, List, [], ◌∷◌}
use Rattle.tv_base.specs.declared.numbers.SubNo.{SubNo}
use Rattle.tv_base.specs.declared.numbers.TreeNo.{TreeNo}
use Rattle.letter_types.specs.declared.acts.Act.{Act}
use Rattle.letter_types.specs.declared.entries.Entry.{Entry}
use Rattle.nc_locks.specs.declared.modes.Lock.{Lock}
use Rattle.nc_locks.specs.Locks.{has_lock, wanted_locks}
use Rattle.script_parts.specs.Wants.{wanted_by}
use Rattle.script_parts.specs.ScriptData.{ScriptData, ops_of}
use Rattle.script_parts.specs.Valid.{IsValid}
use Rattle.world_model.specs.AllApt.{AllApt}
use Rattle.world_model.specs.Counts.{one_if, tally}
use Rattle.world_model.specs.Named.{is_strict_at}
use Rattle.world_model.specs.Runs.{IsStepRun, keeping_in}
use Rattle.board_rules.specs.Stands.{votes_yes}
use Rattle.tree_laws.specs.Applied.{applied_at}

-- how often subtransaction k of transaction t voted yes at node q
abbrev pub yeses_at : List Entry → ℕ → ℕ → ℕ → ℕ
yeses_at [] t k q = 0
yeses_at (e ∷ past) t k q = (if e.actor.0 == q then tally (λ (a : Act). one_if (votes_yes t k a)) e.acts else 0) + yeses_at past t k q

-- each of these locks is among those
abbrev pub AreAmong : List Lock → List Lock → Type 0
AreAmong ls all = (l : Lock) → has_lock l ls ≡ true → has_lock l all ≡ true

-- if a subtransaction of a strict transaction voted yes, and no decision on the transaction was applied yet, the node
-- has each lock that its operations want
abbrev pub VoteLocksStand : Type 0
VoteLocksStand = (s : ScriptData) (past : List Entry) (p : ℕ) (t : TreeNo) (k : SubNo) → IsValid s → AllApt s past → IsStepRun s past
    → p < s.nodes → is_strict_at s t.0 ≡ true → 1 ≤ yeses_at past t.0 k.0 p
    → applied_at past t.0 true p + applied_at past t.0 false p ≡ 0
    → AreAmong (wanted_locks t (wanted_by (ops_of s t.0 k.0))) (keeping_in s past p).core.locks
