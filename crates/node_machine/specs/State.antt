-- A node with the messages that it defers, and what its table sees of it.
use Rattle.std.specs.Prelude.{ℕ}
use Rattle.tx_trees.specs.ScriptData.{ScriptData}
use Rattle.world_model.specs.Keeping.{AreKeptAt, KeepingNode}
use Rattle.tree_step.specs.Core.{IsCoreReady, core_of}
use Rattle.node_machine.specs.declared.state.KeepingParts.{KeepingParts}

-- what its table sees of a node
abbrev pub keeping_of : KeepingParts → KeepingNode
keeping_of n = record { core = core_of n.core; kept = n.kept }

-- a node can take a message as node p of the script: its core can, and what it defers was addressed to it
pub record IsKeepingReady (s : ScriptData) (p : ℕ) (n : KeepingParts) : Type 0 where
  pub core : IsCoreReady s p n.core
  pub kept : AreKeptAt p n.kept
