-- What an audit answers.
use Rattle.std.specs.Prelude.{ℕ, List, Result, Ok, Err}
use Rattle.tx_trees.specs.ScriptData.{ScriptData}
use Rattle.history_audit.specs.declared.auditor.AuditRefusal.{AuditRefusal}
use Rattle.history_audit.specs.declared.auditor.AuditRefusal.TheVariants.{Refused, NoMemory}
use Rattle.history_audit.specs.Verdicts.{Verdict}

-- the verdict of the text, unless memory ran out
abbrev pub IsAudited : ScriptData → List ℕ → Result ℕ AuditRefusal → Type 0
IsAudited s text (Ok n) = Verdict s text (Ok n)
IsAudited s text (Err NoMemory) = Unit {0}
IsAudited s text (Err (Refused f)) = Verdict s text (Err (f.entry, f.rule))
