-- What has to hold of an actor's state so that it may take a message, and how much a message adds to what it counts.
use Rattle.std.specs.Prelude.{ℕ, ◌<◌}
use Rattle.letter_types.specs.declared.entries.Letter.{Letter}
use Rattle.pair_counters.specs.Numbers.{AllBelow}
use Rattle.script_parts.specs.ScriptData.{ScriptData}
use Rattle.world_model.specs.Keeping.{AreKeptAt}
use Rattle.world_model.specs.Tables.{ActorData, NodeData}

-- a message for a node is addressed to one of the script's, and so are all that the node keeps to the same
abbrev pub IsAddressed : ScriptData → Letter → ActorData → Type 0
IsAddressed s l (NodeData n) = (l.to.0 < s.nodes) × AreKeptAt l.to.0 n.kept
IsAddressed s l _ = Unit {0}

-- each number that a node counts is below m
abbrev pub CountsBelow : ℕ → ActorData → Type 0
CountsBelow m (NodeData n) = AllBelow m n.core.node.counts
CountsBelow m _ = Unit {0}

-- how much an entry adds to a counter at most: a root's children and itself, or a subtransaction's children and its
-- notice, and the decision to each node
abbrev pub MOST_COUNTED : ℕ
MOST_COUNTED = 129
