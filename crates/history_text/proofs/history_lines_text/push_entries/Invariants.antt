use Rattle.std.proofs.Common.{◌≡◌, ◌++◌}
use Rattle.history_text.specs.History.{history_lines_of}
use Rattle.history_text.proofs.history_lines_text.push_entries.Given as goal

abbrev pub invariant-loop-entry : goal.invariant-loop-entry
invariant-loop-entry l = l.text ++ history_lines_of l.script l.entry-iterator ≡ l.initial.text ++ history_lines_of l.script l.history
