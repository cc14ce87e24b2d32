use Rattle.std.proofs.Common.{◌≡◌, ◌++◌, drop}
use Rattle.report_text.specs.inside.Lines.{trees_lines}
use Rattle.tx_trees.specs.AsciiNames.{AreAsciiTrees}
use Rattle.report_text.proofs.trees.push_trees.Given as goal

abbrev pub invariant-loop-t : goal.invariant-loop-t
invariant-loop-t l = record {
  text : l.text ++ trees_lines l.script l.t (drop l.t l.trees) (drop l.t l.told.standings.now) (drop l.t l.told.reads.now) (drop l.t l.told.ballots.now)
      ≡ l.initial.text ++ trees_lines l.script 0 l.trees l.told.standings.now l.told.reads.now l.told.ballots.now;
  names : AreAsciiTrees (drop l.t l.trees);
}
