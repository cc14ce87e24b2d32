use Rattle.std.specs.List.{AllByRecursion}
use Rattle.audit_laws.specs.Ranges.{HasRanges}
use Rattle.audit_laws.proofs.ranges.numbers_have_their_ranges.Given as goal

abbrev pub invariant-loop-entry : goal.invariant-loop-entry
invariant-loop-entry l = AllByRecursion HasRanges l.entry-iterator → AllByRecursion HasRanges l.history
