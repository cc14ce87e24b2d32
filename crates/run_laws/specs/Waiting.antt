-- Why messages are deferred, in every run.
use Rattle.std.specs.Prelude.{ℕ, ◌≡◌, ◌+◌, ◌<◌, ◌≤◌, true, false, List, reverse, take, Some, None}
use Rattle.tv_base.specs.declared.numbers.ItemNo.{ItemNo}
use Rattle.tv_base.specs.declared.numbers.TreeNo.{TreeNo}
use Rattle.letter_types.specs.declared.entries.Entry.{Entry}
use Rattle.letter_types.specs.declared.kept.KeptLetter.{KeptLetter}
use Rattle.letter_types.specs.declared.kept.KeepReason.{KeepReason}
use Rattle.letter_types.specs.declared.kept.KeepReason.TheVariants.{Called, ForHolder, ForShow}
use Rattle.letter_types.specs.declared.votes.Cause.TheVariants.{Conflict}
use Rattle.script_parts.specs.Counts.{has_strict}
use Rattle.script_parts.specs.ScriptData.{node_of, updates, visits}
use Rattle.tx_trees.specs.ScriptData.{ScriptData, subs_at}
use Rattle.tx_trees.specs.Valid.{IsValid}
use Rattle.world_model.specs.Counts.{Each, tally}
use Rattle.world_model.specs.Kept.{kept_in}
use Rattle.world_model.specs.Named.{is_strict_at}
use Rattle.world_model.specs.Runs.{IsStepRun, in_flight, keeping_in, node_in}
use Rattle.board_rules.specs.Histories.{places_of}
use Rattle.board_rules.specs.Right.{in_way_of}
use Rattle.tree_laws.specs.Keeping.{Holds}
use Rattle.tree_laws.specs.Waking.{is_wake_at}
use Rattle.tree_laws.specs.Applied.{applied_at}
use Rattle.tree_laws.specs.Turns.{turns}

-- transaction t is strict, it is born, it visits node p, at which a subtransaction of it had its turn, and what is
-- decided of it has still to be applied there
pub record IsHolder (s : ScriptData) (past : List Entry) (p t : ℕ) : Type 0 where
  pub strict : is_strict_at s t ≡ true
  pub born : 1 ≤ turns past t 0
  pub visits : visits (subs_at s t) p ≡ true
  pub turned : (k : ℕ) × ((node_of s t k ≡ p) × (1 ≤ turns past t k))
  pub unapplied : applied_at past t true p + applied_at past t false p ≡ 0

-- until a version is shown the root of a strict transaction is deferred, if the version that is updated is two above
-- the one that is read; until a transaction lets go a subtransaction of an update transaction, if the node has a lock
-- of that transaction which is in the way; and what is called has a Wake in flight
abbrev pub IsKeptUntil : ScriptData → List Entry → ℕ → KeptLetter → KeepReason → Type 0
IsKeptUntil s past p x ForShow =
    (is_strict_at s x.tree.0 ≡ true) × ((x.sub.0 ≡ 0) × ((node_in s past p).turns.update.0 ≡ (node_in s past p).turns.read.0 + 2))
IsKeptUntil s past p x (ForHolder h) =
    (updates s x.tree.0 ≡ true) × (Holds (keeping_in s past p).core h × IsHolder s past p h.0)
IsKeptUntil s past p x Called = 1 ≤ tally (is_wake_at x.tree x.sub p) (in_flight s past)

-- in every run of every valid script
abbrev pub LettersStayKeptForAReason : Type 0
LettersStayKeptForAReason = (s : ScriptData) (past : List Entry) (p : ℕ) → IsValid s → IsStepRun s past → p < s.nodes
    → Each (λ (x : KeptLetter). IsKeptUntil s past p x x.why) (kept_in s past p)

-- nothing is in the way of a subtransaction, at any node and after any entries, if no transaction is strict
abbrev pub NothingIsInTheWay : Type 0
NothingIsInTheWay = (s : ScriptData) (past : List Entry) (n p t k : ℕ) → IsValid s → has_strict s ≡ false → IsStepRun s past
    → in_way_of s (places_of (take n (reverse past))) p t k ≡ None

-- whose lock is in the way of one at its node is a strict transaction that is decided on later
abbrev pub OnlyHoldersAreInTheWay : Type 0
OnlyHoldersAreInTheWay = (s : ScriptData) (past : List Entry) (p t k : ℕ) (x : ItemNo) (u : TreeNo) → IsValid s
    → IsStepRun s past → p < s.nodes → node_of s t k ≡ p
    → in_way_of s (places_of (reverse past)) p t k ≡ Some (Conflict x u) → IsHolder s past p u.0
