-- A node's core, and what its table sees of it.
use Rattle.std.specs.Prelude.{ℕ, ◌≡◌, List, IsSome, None}
use Rattle.tv_base.specs.declared.numbers.TreeNo.{TreeNo}
use Rattle.tree_home.specs.HeldAnswers.{HeldAnswers, held_answers, held_in}
use Rattle.tree_home.specs.Homes.{OpenTrees, home_in}
use Rattle.tree_home.specs.Maps.{by_tree}
use Rattle.nc_locks.specs.declared.modes.Lock.{Lock}
use Rattle.tx_trees.specs.ScriptData.{ScriptData}
use Rattle.world_model.specs.Core.{Core}
use Rattle.world_model.specs.declared.refusal.NegativeVote.{NegativeVote}
use Rattle.pair_counters.specs.Numbers.{AllBelow, MOST_COUNT}
use Rattle.pair_counters.specs.Rows.{counts_of}
use Rattle.tree_step.specs.Node.{IsInWindow, IsReady, data_of}
use Rattle.tree_step.specs.declared.node.NodeParts.{NodeParts}
use Rattle.tree_step.specs.declared.node_core.NodeCore.{NodeCore}

-- what the table sees of these parts, locks, negative votes and epoch
abbrev pub core_with : NodeParts → List Lock → List (TreeNo × NegativeVote) → ℕ → Core
core_with parts locks refusals epoch = record {
  node = data_of parts;
  locks = locks;
  holds = held_answers parts.homes;
  refusals = by_tree refusals;
  epoch = epoch;
}

-- what it sees of a node
abbrev pub core_of : NodeCore → Core
core_of n = core_with n.parts n.locks n.refusals n.epoch

-- of no tree that is open an answer is held
abbrev pub AreApart : OpenTrees → HeldAnswers → Type 0
AreApart opened held = (t : TreeNo) → IsSome (home_in t opened) → held_in t held ≡ None

-- of a node
abbrev pub IsApart : Core → Type 0
IsApart c = AreApart c.node.homes c.holds

-- this node can take a step: its numbers are small enough to count on, its versions are in their window, and of no tree
-- that is open it holds an answer
pub record CanCoreStep (n : NodeCore) : Type 0 where
  pub small : AllBelow MOST_COUNT (counts_of n.parts.counters).numbers
  pub window : IsInWindow n.parts
  pub apart : IsApart (core_of n)

-- this node can take a step as node p of the script, and holds no answer of a tree that is open
pub record IsCoreReady (s : ScriptData) (p : ℕ) (n : NodeCore) : Type 0 where
  pub parts : IsReady s p n.parts
  pub apart : IsApart (core_of n)
