use Rattle.std.proofs.Common.{List, length}
use Rattle.letter_types.specs.declared.entries.Entry.{Entry}
use Rattle.history_audit.specs.inside.Auditing.{IsUnderAudit}
use Rattle.history_audit.proofs.auditor.audit.Given as goal

abbrev pub invariant-loop-walk : goal.invariant-loop-walk
invariant-loop-walk l = (h : List Entry) × IsUnderAudit l.script l.text h l.walk l.judge

abbrev pub decreases-loop-walk : goal.decreases-loop-walk
decreases-loop-walk l = length l.walk.rest
