use Rattle.std.proofs.Common.{◌≡◌, ◌+◌, ◌++◌, drop}
use Rattle.std.specs.Io.{StartsWith}
use Rattle.tx_trees.specs.AsciiNames.{AreAsciiTrees}
use Rattle.report_text.specs.Replies.{reply_lines}
use Rattle.report_text.proofs.replies.Replies.push_rest.Given as goal

abbrev pub invariant-loop-k : goal.invariant-loop-k
invariant-loop-k l = record {
  text : l.text ++ reply_lines l.script l.history l.next (l.from + l.k) (drop l.k l.tree-items)
      ≡ l.initial.text ++ reply_lines l.script l.history l.next l.from l.tree-items;
  names : AreAsciiTrees (drop l.k l.tree-items);
  starts : StartsWith l.text l.initial.text;
}
