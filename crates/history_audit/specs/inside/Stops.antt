-- Why an audit stops, by why its parts did.
use Rattle.tv_base.specs.declared.moving.ReadEnd.{ReadEnd}
use Rattle.tv_base.specs.declared.moving.ReadEnd.TheVariants as ends
use Rattle.script_parts.specs.declared.why.Why.TheVariants as why
use Rattle.script_reader.specs.Reading.{fault}
use Rattle.script_reader.specs.declared.reading.ScriptRefusal.{ScriptRefusal}
use Rattle.script_reader.specs.declared.reading.ScriptRefusal.TheVariants as scripts
use Rattle.history_audit.specs.declared.auditor.AuditRefusal.{AuditRefusal}
use Rattle.history_audit.specs.declared.auditor.AuditRefusal.TheVariants as audits
use Rattle.history_audit.specs.declared.source_audit.AuditStop.{AuditStop}
use Rattle.history_audit.specs.declared.source_audit.AuditStop.TheVariants as stops

abbrev pub by_reading : ReadEnd → AuditStop
by_reading ends.TooLong = stops.Script (fault 0 why.TooLong)
by_reading ends.Failed = stops.Reading
by_reading ends.NoMemory = stops.NoMemory

abbrev pub by_script : ScriptRefusal → AuditStop
by_script (scripts.Fault f) = stops.Script f
by_script scripts.NoMemory = stops.NoMemory

abbrev pub by_history : AuditRefusal → AuditStop
by_history (audits.Refused f) = stops.History f
by_history audits.NoMemory = stops.NoMemory
