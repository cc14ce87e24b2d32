-- What a call knows of the script that its source has, and of the cause if it stops.
use Rattle.std.proofs.Common.{◌≡◌, ℕ, List, Option, Some, Ok, Err, inl, inr, refl, subst}
use Rattle.tv_base.specs.Outside.{HasMoreThan}
use Rattle.tv_base.specs.declared.moving.ReadEnd.{ReadEnd}
use Rattle.tv_base.specs.declared.moving.ReadEnd.TheVariants as ends
use Rattle.tv_base.specs.declared.moving.TheConstants.{MOST_BYTES}
use Rattle.command_words.specs.Lines.{HasReadLine}
use Rattle.command_words.specs.declared.Line.{Line}
use Rattle.command_words.specs.declared.Line.TheVariants as lines
use Rattle.command_words.specs.declared.ScriptMode.{ScriptMode}
use Rattle.command_words.specs.declared.WordsError.{WordsError}
use Rattle.command_words.specs.declared.WordsError.TheVariants as errors
use Rattle.letter_types.specs.declared.entries.Entry.{Entry}
use Rattle.script_reader.specs.Reading.{Gives, read_of}
use Rattle.script_reader.specs.declared.reading.ScriptRefusal.{ScriptRefusal}
use Rattle.script_reader.specs.declared.reading.ScriptRefusal.TheVariants as refusals
use Rattle.tx_trees.specs.ScriptData.{ScriptData}
use Rattle.history_audit.specs.Audits.{HasAuditCause, ReadsAll}
use Rattle.history_audit.specs.declared.source_audit.AuditStop.{AuditStop}
use Rattle.history_audit.specs.declared.source_audit.AuditStop.TheVariants as audits
use Rattle.threev_top.specs.Calls.{HasCause, IsText, IsTextOf}
use Rattle.threev_top.specs.inside.Calls.{audit_stop, reading_stop, script_stop, words_stop}

abbrev reads : ScriptMode → Option Line
reads mode = Some (lines.OfScript mode)

-- the bytes that were handed on are those that were read
pub text_of_source : (mode : ScriptMode) (left now : Option (List ℕ)) (bytes handed : List ℕ) (script : ScriptData)
    (history : List Entry) (text : List ℕ) → ReadsAll left now bytes → handed ≡ bytes → read_of handed ≡ Ok script
    → IsText mode script history text → IsTextOf mode left now history text
text_of_source mode left now bytes handed script history text all same is is_text = record {
  bytes = bytes;
  all = all;
  script = script;
  read = subst (λ (b : List ℕ). read_of b ≡ Ok script) same is;
  is_text = is_text;
}

-- reading gave no bytes
pub reading_cause : (mode : ScriptMode) (left now : Option (List ℕ)) (failed never : Type 0) (end : ReadEnd)
    → (end ≡ ends.TooLong → HasMoreThan MOST_BYTES left) → (end ≡ ends.Failed → failed)
    → HasCause (reads mode) left now failed never (reading_stop end)
reading_cause mode left now failed never ends.TooLong long fault = (refl, inr (refl, long refl))
reading_cause mode left now failed never ends.Failed long fault = (refl, fault refl)
reading_cause mode left now failed never ends.NoMemory long fault = tt

-- the bytes are no script
pub script_cause : (mode : ScriptMode) (left now : Option (List ℕ)) (failed never : Type 0) (bytes handed : List ℕ)
    (refusal : ScriptRefusal) → ReadsAll left now bytes → handed ≡ bytes → Gives (Err refusal) (read_of handed)
    → HasCause (reads mode) left now failed never (script_stop refusal)
script_cause mode left now failed never bytes handed (refusals.Fault f) all same is =
    (refl, inl (bytes, all, subst (λ (b : List ℕ). read_of b ≡ Err f) same is))
script_cause mode left now failed never bytes handed refusals.NoMemory all same is = tt

-- the words are no line
pub words_cause : (line : Option Line) (left now : Option (List ℕ)) (failed never : Type 0) (refusal : WordsError)
    → HasReadLine line (Err refusal) → HasCause line left now failed never (words_stop refusal)
words_cause line left now failed never errors.Refused is = is
words_cause line left now failed never errors.NoMemory is = tt

-- an audit accepts nothing
pub audit_cause : (left now : Option (List ℕ)) (failed never : Type 0) (stop : AuditStop) → HasAuditCause left now failed stop
    → HasCause (Some lines.Audit) left now failed never (audit_stop stop)
audit_cause left now failed never audits.NoMemory has = tt
audit_cause left now failed never audits.Reading has = (refl, has)
audit_cause left now failed never (audits.Script f) has = (refl, has)
audit_cause left now failed never (audits.History f) has = (refl, has)
