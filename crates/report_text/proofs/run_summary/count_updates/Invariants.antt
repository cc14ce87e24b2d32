use Rattle.std.proofs.Common.{◌≡◌, ◌≤◌, ◌+◌, drop}
use Rattle.report_text.specs.Summary.{update_trees}
use Rattle.report_text.proofs.run_summary.count_updates.Given as goal

abbrev pub invariant-loop-tree : goal.invariant-loop-tree
invariant-loop-tree l = record {
  count : l.count + update_trees (drop l.tree-index l.trees) ≡ update_trees l.trees;
  small : l.count ≤ l.tree-index;
}
