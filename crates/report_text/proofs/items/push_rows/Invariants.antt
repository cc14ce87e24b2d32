use Rattle.std.proofs.Common.{◌≡◌, ◌++◌, drop}
use Rattle.report_text.specs.inside.Lines.{rows_lines}
use Rattle.tx_trees.specs.AsciiNames.{AreAsciiItems}
use Rattle.report_text.proofs.items.push_rows.Given as goal

abbrev pub invariant-loop-item : goal.invariant-loop-item
invariant-loop-item l = record {
  text : l.text ++ rows_lines l.advances (drop l.item l.rows) (drop l.item l.worth.shown.now) (drop l.item l.worth.later.now) (drop l.item l.worth.written.now)
      ≡ l.initial.text ++ rows_lines l.advances l.rows l.worth.shown.now l.worth.later.now l.worth.written.now;
  names : AreAsciiItems (drop l.item l.rows);
}
