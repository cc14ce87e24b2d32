use Rattle.std.proofs.Common.{take}
use Rattle.std.specs.List.{AllByRecursion}
use Rattle.audit_laws.specs.Ranges.{HasActRanges}
use Rattle.audit_laws.proofs.ranges.of_acts.Given as goal

abbrev pub invariant-loop-act : goal.invariant-loop-act
invariant-loop-act l = AllByRecursion HasActRanges (take l.act-index l.acts)
