-- How often subtransactions took effect on their nodes' items, in runs of every script.
use Rattle.std.specs.Prelude.{if◌then◌else◌, ℕ, true, List}
use Rattle.letter_types.specs.declared.entries.Entry.{Entry}
use Rattle.tx_trees.specs.ScriptData.{ScriptData, node_of}
use Rattle.world_model.specs.Named.{is_strict_at}
use Rattle.tree_laws.specs.Applied.{applied_at}
use Rattle.tree_laws.specs.Turns.{turns}

-- one of a strict transaction if a commit of its transaction was applied at its node, any other if it had its turn
abbrev pub effects : ScriptData → List Entry → ℕ → ℕ → ℕ
effects s past t k = if is_strict_at s t then applied_at past t true (node_of s t k) else turns past t k
