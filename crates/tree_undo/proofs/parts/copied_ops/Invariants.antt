use Rattle.std.proofs.Common.{◌≡◌, take}
use Rattle.tree_undo.proofs.parts.copied_ops.Given as goal

abbrev pub invariant-loop-op : goal.invariant-loop-op
invariant-loop-op l = l.out ≡ take l.op-index l.ops
