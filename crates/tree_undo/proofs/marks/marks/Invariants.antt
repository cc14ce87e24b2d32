use Rattle.std.proofs.Common.{◌≡◌, [], drop}
use Rattle.tx_trees.specs.Undone.{goes_from}
use Rattle.tree_undo.proofs.marks.marks.Given as goal

abbrev pub invariant-loop-sub : goal.invariant-loop-sub
invariant-loop-sub l = goes_from l.failed.0 l.goes.items (drop l.sub-index l.subs) ≡ goes_from l.failed.0 [] l.subs
