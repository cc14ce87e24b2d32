-- In the midst of an audit, and how it ends.
use Rattle.std.specs.Prelude.{ℕ, Bool, true, false, ◌≡◌, List, Result, Ok, Err, [], ◌∷◌, ◌++◌}
use Rattle.letter_types.specs.declared.entries.Entry.{Entry}
use Rattle.tx_trees.specs.ScriptData.{ScriptData}
use Rattle.board_judge.specs.Judged.{HasJudged, JudgeData}
use Rattle.board_judge.specs.declared.judge.Refused.{Refused}
use Rattle.board_judge.specs.declared.judge.Refused.TheVariants as refused
use Rattle.history_reader.specs.Walks.{IsWalked, WalkData}
use Rattle.history_reader.specs.declared.walk.Fault.{Fault}
use Rattle.history_reader.specs.declared.walk.Fault.TheVariants as faults
use Rattle.history_audit.specs.declared.auditor.AuditRefusal.{AuditRefusal}
use Rattle.history_audit.specs.declared.auditor.AuditRefusal.TheVariants as refusals
use Rattle.history_audit.specs.declared.rules.AuditRule.{AuditRule}
use Rattle.history_audit.specs.declared.rules.AuditRule.TheVariants as rules
use Rattle.history_audit.specs.Audited.{IsAudited}

-- the walk of the text has come behind these entries, and the judge has taken them
pub record IsUnderAudit (s : ScriptData) (text : List ℕ) (h : List Entry) (w : WalkData) (j : JudgeData) : Type 0 where
  pub walk : w.script ≡ s
  pub judge : j.script ≡ s
  pub walked : IsWalked s text h w
  pub taken : HasJudged j h

-- the second walk and the second judge have taken one entry more, whatever the first ones have taken
abbrev pub HaveTakenOne : WalkData → JudgeData → WalkData → JudgeData → Type 0
HaveTakenOne w j v k = (s : ScriptData) (text : List ℕ) (h : List Entry) → IsUnderAudit s text h w j
    → (e : Entry) × IsUnderAudit s text (h ++ e ∷ []) v k

-- the text is refused so, whatever the walk and the judge have taken
abbrev pub RefusesSo : WalkData → JudgeData → AuditRefusal → Type 0
RefusesSo w j refusal = (s : ScriptData) (text : List ℕ) (h : List Entry) → IsUnderAudit s text h w j
    → IsAudited s text (Err refusal)

-- the refusal of the entry of this number by this rule
abbrev pub audit_refusal : ℕ → AuditRule → AuditRefusal
audit_refusal entry rule = refusals.Refused (record { entry = entry; rule = rule })

-- how an audit of that many entries ends, if the client has finished or hasn't
abbrev pub end_of : ℕ → Bool → Result ℕ AuditRefusal
end_of count true = Ok count
end_of count false = Err (audit_refusal count rules.End)

-- the refusal of the entry of this number, which couldn't be read, and of one that was judged
abbrev pub unread_of : Fault → ℕ → AuditRefusal
unread_of faults.Text number = audit_refusal number rules.Text
unread_of faults.Postal number = audit_refusal number rules.Postal
unread_of faults.NoMemory number = refusals.NoMemory

abbrev pub judged_refusal : Refused → ℕ → AuditRefusal
judged_refusal (refused.Wrong wrong) number = audit_refusal number (rules.Judged wrong.rule)
judged_refusal refused.NoMemory number = refusals.NoMemory
