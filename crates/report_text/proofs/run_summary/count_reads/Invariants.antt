use Rattle.std.proofs.Common.{◌≡◌, ◌≤◌, ◌+◌, drop}
use Rattle.report_text.specs.Summary.{read_trees}
use Rattle.report_text.proofs.run_summary.count_reads.Given as goal

abbrev pub invariant-loop-tree : goal.invariant-loop-tree
invariant-loop-tree l = record {
  count : l.count + read_trees (drop l.tree-index l.trees) ≡ read_trees l.trees;
  small : l.count ≤ l.tree-index;
}
