use Rattle.std.proofs.Common.{◌≡◌, ◌++◌, length}
use Rattle.std.specs.List.{AllByRecursion}
use Rattle.history_text.specs.History.{act_lines}
use Rattle.history_text.specs.Printable.{IsAct}
use Rattle.history_reader.proofs.line_lists.read_acts.Given as goal

abbrev pub invariant-lines : goal.invariant-lines
invariant-lines l = record { lines : l.initial.lines ≡ act_lines l.script l.acts ++ l.lines; acts : AllByRecursion (IsAct l.script) l.acts }

abbrev pub decreases-lines : goal.decreases-lines
decreases-lines l = length l.lines
