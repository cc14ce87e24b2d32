use Rattle.std.proofs.Common.{◌≡◌, map, take}
use Rattle.tx_trees.specs.Undone.{negated}
use Rattle.tree_undo.proofs.parts.negated_ops.Given as goal

abbrev pub invariant-loop-op : goal.invariant-loop-op
invariant-loop-op l = l.out ≡ map negated (take l.op-index l.ops)
