use Rattle.std.proofs.Common.{◌≡◌, ◌++◌, length}
use Rattle.std.specs.List.{AllByRecursion}
use Rattle.history_text.specs.History.{sent_lines}
use Rattle.history_text.specs.Printable.{IsSent}
use Rattle.history_reader.proofs.line_lists.read_letters.Given as goal

abbrev pub invariant-lines : goal.invariant-lines
invariant-lines l = record { lines : l.initial.lines ≡ sent_lines l.script l.letters ++ l.lines; sent : AllByRecursion (IsSent l.script) l.letters }

abbrev pub decreases-lines : goal.decreases-lines
decreases-lines l = length l.lines
