use Rattle.std.proofs.Common.{take}
use Rattle.audit_laws.specs.Ranges.{AreWords}
use Rattle.audit_laws.proofs.ranges.of_row.Given as goal

abbrev pub invariant-loop-number : goal.invariant-loop-number
invariant-loop-number l = AreWords (take l.number-index l.numbers)
