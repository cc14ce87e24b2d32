use Rattle.std.proofs.Common.{map, take}
use Rattle.std.specs.List.{AllByRecursion}
use Rattle.run_history.specs.Messages.{outgoing_of}
use Rattle.audit_laws.specs.Ranges.{HasSentRanges}
use Rattle.audit_laws.proofs.ranges.of_letters.Given as goal

abbrev pub invariant-loop-letter : goal.invariant-loop-letter
invariant-loop-letter l = AllByRecursion HasSentRanges (map outgoing_of (take l.letter-index l.letters))
