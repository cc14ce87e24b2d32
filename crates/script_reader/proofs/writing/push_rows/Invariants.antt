use Rattle.std.proofs.Common.{◌≡◌, ◌++◌, drop}
use Rattle.script_reader.specs.Written.{lines, rows_of_rows}
use Rattle.script_reader.proofs.writing.push_rows.Given as goal

abbrev pub invariant-loop-row : goal.invariant-loop-row
invariant-loop-row l = l.text ++ lines (rows_of_rows l.items l.trees (drop l.row-index l.rows)) ≡ l.initial.text ++ lines (rows_of_rows l.items l.trees l.rows)
