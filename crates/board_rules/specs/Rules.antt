-- The rules of acts that the order of acts rests on. They say less than that each act is a move of the Board: nothing of
-- values, of who is asked for, and of no votes.
use Rattle.std.specs.Prelude.{◌≡◌, ◌<◌, ◌||◌, ℕ, Bool, true, false, IsTrue, List, length, slice_get, take, Some, None}
use Rattle.tv_base.specs.declared.numbers.Version.{Version}
use Rattle.letter_types.specs.declared.acts.Act.{Act}
use Rattle.letter_types.specs.declared.acts.Act.TheVariants.{Did, Voted, Freed, Decided, Applied}
use Rattle.letter_types.specs.declared.votes.Vote.TheVariants.{Yes, No}
use Rattle.script_parts.specs.ScriptData.{ScriptData, node_of, ops_of, subs_at, updates}
use Rattle.board_rules.specs.Histories.{Place, born_as, is_strict_tree, is_whole_in, version_in, version_or, was_born, was_done}
use Rattle.board_rules.specs.Moves.{IsApplying, IsDecision, IsFreeing}
use Rattle.board_rules.specs.Stands.{conflict_of, newer_of, was_voted}

-- a Did is of a born transaction's subtransaction at its node, once; that of an update transaction meets no lock that
-- conflicts
pub record IsFreeDeed (s : ScriptData) (xs : List Place) (p t k : ℕ) : Type 0 where
  pub born : IsTrue (was_born xs t)
  pub there : k < length (subs_at s t)
  pub once : was_done t k xs ≡ false
  pub node : node_of s t k ≡ p
  pub free : IsTrue (updates s t) → conflict_of s xs p t (ops_of s t k) ≡ None

-- a yes vote is of a born strict transaction's subtransaction at its node, once; it meets no lock that conflicts, and
-- what it writes is written in no newer version
pub record IsFreeVote (s : ScriptData) (xs : List Place) (p t k : ℕ) : Type 0 where
  pub strict : IsTrue (is_strict_tree s t)
  pub born : IsTrue (was_born xs t)
  pub there : k < length (subs_at s t)
  pub once : was_voted t k xs ≡ false
  pub node : node_of s t k ≡ p
  pub free : conflict_of s xs p t (ops_of s t k) ≡ None
  pub newest : newer_of s xs p (version_or 0 (version_in t xs)) (ops_of s t k) ≡ None

-- the act follows its rule at node p, after the acts xs
abbrev pub IsByRule : ScriptData → List Place → ℕ → Act → Type 0
IsByRule s xs p (Did t k values) = IsFreeDeed s xs p t.0 k.0
IsByRule s xs p (Voted t k (Yes values)) = IsFreeVote s xs p t.0 k.0
IsByRule s xs p (Voted t k (No cause)) = Unit {0}
IsByRule s xs p (Freed t) = IsFreeing s xs p t.0
IsByRule s xs p (Decided t commit) = IsDecision s xs p t.0 commit
IsByRule s xs p (Applied t commit) = IsApplying s xs p t.0 commit
IsByRule s xs p _ = Unit {0}

-- each act of the list follows its rule, after those before it
abbrev pub AreByRule : ScriptData → List Place → Type 0
AreByRule s zs = (i : ℕ) (y : Place) → slice_get zs i ≡ Some y → IsByRule s (take i zs) y.node y.act

-- transaction t writes: it is an update or a strict transaction
abbrev pub is_writer : ScriptData → ℕ → Bool
is_writer s t = updates s t || is_strict_tree s t

-- if a strict transaction is born, each writer of a smaller version, whenever it is born, is complete
abbrev pub AreBornLate : ScriptData → List Place → Type 0
AreBornLate s zs =
    (i k t : ℕ) (y : Place) (v w : Version) → slice_get zs i ≡ Some y → born_as k y.act ≡ Some v → is_strict_tree s k ≡ true
    → is_writer s t ≡ true → version_in t zs ≡ Some w → w.0 < v.0 → is_whole_in s (take i zs) t ≡ true

-- what the order of acts needs
pub record FollowsRules (s : ScriptData) (zs : List Place) : Type 0 where
  pub acts : AreByRule s zs
  pub births : AreBornLate s zs
