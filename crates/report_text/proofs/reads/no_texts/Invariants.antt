use Rattle.std.proofs.Common.{◌≡◌, length}
use Rattle.report_text.proofs.reads.no_texts.Given as goal

abbrev pub invariant-loop-tree : goal.invariant-loop-tree
invariant-loop-tree l = length l.texts ≡ l.tree-index
