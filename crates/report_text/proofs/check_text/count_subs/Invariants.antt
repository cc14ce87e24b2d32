use Rattle.std.proofs.Common.{◌≡◌, ◌+◌, drop}
use Rattle.tx_trees.specs.Adding.{all_subs}
use Rattle.report_text.proofs.check_text.count_subs.Given as goal

abbrev pub invariant-loop-tree : goal.invariant-loop-tree
invariant-loop-tree l = l.count + all_subs (drop l.tree-index l.trees) ≡ all_subs l.trees
