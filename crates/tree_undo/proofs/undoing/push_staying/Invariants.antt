use Rattle.std.proofs.Common.{◌≡◌, ◌++◌, drop}
use Rattle.tx_trees.specs.Undone.{each_from, stays}
use Rattle.tree_undo.proofs.undoing.push_staying.Given as goal

abbrev pub invariant-loop-k : goal.invariant-loop-k
invariant-loop-k l = l.out ++ each_from (stays l.failed.0 l.goes) l.k (drop l.k l.subs) ≡ l.fn.out ++ each_from (stays l.failed.0 l.goes) 0 l.subs
