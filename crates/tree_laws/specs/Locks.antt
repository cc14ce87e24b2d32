-- What the steps of a node with strict transactions say of its locks.
use Rattle.std.specs.Prelude.{ℕ, ◌≡◌, ◌≢◌, ◌<◌, true, false, List, Some, fold, reverse, slice_get}
use Rattle.std.specs.List.{AllByRecursion}
use Rattle.tv_base.specs.declared.numbers.SubNo.{SubNo}
use Rattle.tv_base.specs.declared.numbers.TreeNo.{TreeNo}
use Rattle.letter_types.specs.declared.acts.Act.{Act}
use Rattle.letter_types.specs.declared.acts.Act.TheVariants.{Did, Voted}
use Rattle.letter_types.specs.declared.entries.Entry.{Entry}
use Rattle.letter_types.specs.declared.entries.Letter.{Letter}
use Rattle.nc_locks.specs.declared.modes.Lock.{Lock}
use Rattle.script_parts.specs.Counts.{has_strict}
use Rattle.nc_locks.specs.Locks.{has_lock, met_in}
use Rattle.nc_locks.specs.Modes.{modes_conflict}
use Rattle.script_parts.specs.Wants.{wanted_by}
use Rattle.script_parts.specs.ScriptData.{ScriptData, node_of, ops_of}
use Rattle.script_parts.specs.Valid.{IsValid}
use Rattle.script_parts.specs.declared.parts.ItemRow.{ItemRow}
use Rattle.script_parts.specs.declared.parts.SubOp.{SubOp}
use Rattle.world_model.specs.Core.{Core}
use Rattle.world_model.specs.Runs.{IsStepRun, keeping_in}
use Rattle.world_model.specs.Strict.{core_step}
use Rattle.world_model.specs.Votes.{conflict_by}
use Rattle.board_rules.specs.Histories.{Place, places_of}
use Rattle.board_rules.specs.Locked.{AreModesOf, AreStanding, IsApartFrom, locks_after_act, locks_at}
use Rattle.board_rules.specs.Stands.{conflict_of, modes_standing}

-- the locks of a node after these acts of it
abbrev pub locks_after_acts : ScriptData → List Lock → List Act → List Lock
locks_after_acts s ls acts = fold (λ (held : List Lock) (a : Act). locks_after_act s a held) ls acts

-- a step of a core leaves the locks that its acts say
abbrev pub LocksFollowActs : Type 0
LocksFollowActs = (s : ScriptData) (p : ℕ) (c : Core) (l : Letter) → has_strict s ≡ true
    → (core_step s p c l).state.locks ≡ locks_after_acts s c.locks (core_step s p c l).acts

-- on an item of node p, on which other nodes take no lock, the locks by the node's acts are those of the look back
abbrev pub LocksStand : Type 0
LocksStand = (s : ScriptData) (xs : List Place) (p x k : ℕ) → AllByRecursion (IsApartFrom s p x k) xs
    → AreModesOf k x (locks_at s xs p) (modes_standing s xs p x k)

-- what a transaction with these operations meets there is the conflict that the look back names
abbrev pub MetIsConflict : Type 0
MetIsConflict = (s : ScriptData) (xs : List Place) (p : ℕ) (ls : List Lock) (t : TreeNo) (os : List SubOp)
    → ((i : ℕ) (o : SubOp) → slice_get os i ≡ Some o → AreStanding s xs p ls o.item.0)
    → conflict_by (met_in t (wanted_by os) ls) ≡ conflict_of s xs p t.0 os

-- In every run.

-- a node's locks are those that the acts of the past say
abbrev pub RunLocks : Type 0
RunLocks = (s : ScriptData) (past : List Entry) (p : ℕ) → has_strict s ≡ true → IsStepRun s past → p < s.nodes
    → (keeping_in s past p).core.locks ≡ locks_at s (places_of (reverse past)) p

-- a subtransaction is done, or votes, at its node
abbrev pub IsAtHome : ScriptData → ℕ → Act → Type 0
IsAtHome s p (Did t k values) = node_of s t.0 k.0 ≡ p
IsAtHome s p (Voted t k vote) = node_of s t.0 k.0 ≡ p
IsAtHome s p _ = Unit {0}

abbrev pub ActsAreAtHome : Type 0
ActsAreAtHome = (s : ScriptData) (past : List Entry) → IsStepRun s past
    → AllByRecursion (λ (y : Place). IsAtHome s y.node y.act) (places_of (reverse past))

-- so on each item of a node a transaction has its locks there in just the modes in which the look back finds it
abbrev pub RunLocksStand : Type 0
RunLocksStand = (s : ScriptData) (past : List Entry) (p x : ℕ) (r : ItemRow) → has_strict s ≡ true → IsValid s → IsStepRun s past
    → p < s.nodes → slice_get s.items x ≡ Some r → r.node.0 ≡ p
    → (k : ℕ) → AreModesOf k x (keeping_in s past p).core.locks (modes_standing s (places_of (reverse past)) p x k)

-- locks of two transactions on an item don't conflict
abbrev pub HaveNoConflict : List Lock → Type 0
HaveNoConflict ls = (a b : Lock) → has_lock a ls ≡ true → has_lock b ls ≡ true → a.item.0 ≡ b.item.0 → a.tree.0 ≢ b.tree.0
    → modes_conflict a.mode b.mode ≡ false

-- neither at a node's step, nor, so, after any past, whatever messages came
abbrev pub RunsHaveNoConflict : Type 0
RunsHaveNoConflict = (s : ScriptData) (past : List Entry) (p : ℕ) → HaveNoConflict (keeping_in s past p).core.locks

-- what a subtransaction of a node meets there, if anything, is the conflict that the look back over the acts names: the first
-- of its items that a transaction has in a mode that conflicts, and the least such transaction
abbrev pub RunsMeetConflicts : Type 0
RunsMeetConflicts = (s : ScriptData) (past : List Entry) (p : ℕ) (t : TreeNo) (k : SubNo) → has_strict s ≡ true → IsValid s
    → IsStepRun s past → p < s.nodes → node_of s t.0 k.0 ≡ p
    → conflict_by (met_in t (wanted_by (ops_of s t.0 k.0)) (keeping_in s past p).core.locks)
    ≡ conflict_of s (places_of (reverse past)) p t.0 (ops_of s t.0 k.0)
