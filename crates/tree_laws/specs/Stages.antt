-- How far transactions have come at their homes, in runs of every script.
use Rattle.std.specs.Prelude.{ℕ, ◌==◌, ◌+◌, ◌<◌, ◌≤◌, ◌≡◌, true, List, length, slice_get, Option, Some, None}
use Rattle.letter_types.specs.declared.bodies.Body.{Body}
use Rattle.letter_types.specs.declared.bodies.Body.TheVariants.{Decide, Decided}
use Rattle.letter_types.specs.declared.entries.Entry.{Entry}
use Rattle.letter_types.specs.declared.entries.Letter.{Letter}
use Rattle.tree_home.specs.HeldAnswers.{held_in}
use Rattle.tree_home.specs.Homes.{Gets, home_in, missing_count}
use Rattle.tree_home.specs.declared.homes.Held.{Held}
use Rattle.tree_home.specs.declared.homes.OpenTree.{OpenTree}
use Rattle.tx_trees.specs.ScriptData.{ScriptData, home_of, subs_at}
use Rattle.tx_trees.specs.Valid.{IsValid}
use Rattle.world_model.specs.AllApt.{AllApt}
use Rattle.world_model.specs.Counts.{one_if, tally}
use Rattle.world_model.specs.Named.{is_strict_at}
use Rattle.world_model.specs.Runs.{IsStepRun, in_flight, keeping_in, node_in}
use Rattle.tree_laws.specs.Dids.{answers, notices}
use Rattle.tree_laws.specs.Turns.{turns}

-- a notice that was taken down
abbrev pub is_noted : Option (Option Gets) → ℕ
is_noted None = 0
is_noted (Some None) = 0
is_noted (Some (Some values)) = 1

-- a message that tells what was decided of transaction t, or that it was applied
abbrev pub decides : ℕ → Body → ℕ
decides t (Decide u v commit) = one_if (u.0 == t)
decides t (Decided u v) = one_if (u.0 == t)
decides t _ = 0

-- how many messages in flight do
abbrev pub decisions : ScriptData → List Entry → ℕ → ℕ
decisions s past t = tally (λ (l : Letter). decides t l.body) (in_flight s past)

-- what is open of transaction t at its home, and what is held of it there
abbrev pub home_at : ScriptData → List Entry → ℕ → Option OpenTree
home_at s past t = home_in (record { 0 = t }) (node_in s past (home_of s t)).homes

abbrev pub held_at : ScriptData → List Entry → ℕ → Option Held
held_at s past t = held_in (record { 0 = t }) (keeping_in s past (home_of s t)).core.holds

-- each subtransaction has had its turn, and no notice is in flight
pub record AllTurned (s : ScriptData) (past : List Entry) (t : ℕ) : Type 0 where
  pub turned : (k : ℕ) → k < length (subs_at s t) → turns past t k ≡ 1
  pub notes : (k : ℕ) → notices s past t k ≡ 0

-- the transaction isn't born
pub record IsUnborn (s : ScriptData) (past : List Entry) (t : ℕ) : Type 0 where
  pub root : turns past t 0 ≡ 0
  pub home : home_at s past t ≡ None
  pub held : held_at s past t ≡ None
  pub answers : answers past t ≡ 0
  pub notes : (k : ℕ) → notices s past t k ≡ 0
  pub decisions : decisions s past t ≡ 0

-- its notices are gathered, and one is missing: each that was sent is in flight or taken down
pub record IsGathering (s : ScriptData) (past : List Entry) (t : ℕ) (h : OpenTree) : Type 0 where
  pub root : turns past t 0 ≡ 1
  pub home : home_at s past t ≡ Some h
  pub held : held_at s past t ≡ None
  pub places : length h.notices ≡ length (subs_at s t)
  pub missing : 1 ≤ missing_count h.notices
  pub answers : answers past t ≡ 0
  pub notes : (k : ℕ) → k < length (subs_at s t) → turns past t k ≡ notices s past t k + is_noted (slice_get h.notices k)
  pub no_others : (k : ℕ) → length (subs_at s t) ≤ k → notices s past t k ≡ 0
  pub decisions : decisions s past t ≡ 0

-- it is strict and decided, and its answer is held: a message of the decision is in flight for each acknowledgement
-- that is missing
pub record IsHolding (s : ScriptData) (past : List Entry) (t : ℕ) (h : Held) : Type 0 where
  pub strict : is_strict_at s t ≡ true
  pub names : h.answered.tree.0 ≡ t
  pub waits : 1 ≤ h.waits
  pub home : home_at s past t ≡ None
  pub held : held_at s past t ≡ Some h
  pub answers : answers past t ≡ 0
  pub all : AllTurned s past t
  pub decisions : decisions s past t ≡ h.waits

-- it is answered
pub record IsAnswered (s : ScriptData) (past : List Entry) (t : ℕ) : Type 0 where
  pub home : home_at s past t ≡ None
  pub held : held_at s past t ≡ None
  pub answers : answers past t ≡ 1
  pub all : AllTurned s past t
  pub decisions : decisions s past t ≡ 0

-- the stages
pub data StageAt (s : ScriptData) (past : List Entry) (t : ℕ) : Type 0 where
  Unborn : IsUnborn s past t → StageAt s past t
  Gathers : (h : OpenTree) → IsGathering s past t h → StageAt s past t
  Holds : (h : Held) → IsHolding s past t h → StageAt s past t
  Answered : IsAnswered s past t → StageAt s past t

-- if each message that came to a node brought an enabled one, each transaction is at one of them
abbrev pub StagesOfTrees : Type 0
StagesOfTrees = (s : ScriptData) (past : List Entry) → IsValid s → AllApt s past → IsStepRun s past
    → (t : ℕ) → t < length s.trees → StageAt s past t
