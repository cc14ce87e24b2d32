-- What is read in mode audit: a script, a line that is exactly `history`, and a history's lines.
use Rattle.std.specs.Prelude.{if◌then◌else◌, ℕ, Bool, true, false, ◌≡◌, ◌==◌, ◌&&◌, ◌⊎◌, ◌++◌, List, [], ◌∷◌, codes, drop, take, Option, Result, Ok, Err, ⊤}
use Rattle.std.specs.Io.KnownBytes.{Consumes, IsAtEnd}
use Rattle.std.specs.Str.{bytes_eq}
use Rattle.tv_base.specs.Outside.{HasMoreThan, Rose}
use Rattle.tx_trees.specs.ScriptData.{ScriptData}
use Rattle.script_parts.specs.declared.why.Why.TheVariants as why
use Rattle.script_reader.specs.Reading.{fault, read_of}
use Rattle.script_reader.specs.declared.reading.ScriptFault.{ScriptFault}
use Rattle.history_text.specs.Values.{count_text}
use Rattle.history_audit.specs.Verdicts.{Verdict}
use Rattle.history_audit.specs.declared.rules.AuditRule.{AuditRule}
use Rattle.history_audit.specs.declared.source_audit.AuditStop.{AuditStop}
use Rattle.history_audit.specs.declared.source_audit.AuditStop.TheVariants as stops
use Rattle.history_audit.specs.declared.source_audit.TheConstants.{MOST_AUDIT_BYTES}

-- these are all the bytes that the source had, and they were read to their end
abbrev pub ReadsAll : Option (List ℕ) → Option (List ℕ) → List ℕ → Type 0
ReadsAll left now bytes = Consumes left now bytes × IsAtEnd now

-- the text is at its end, or at the end of a line
abbrev pub ends_line : List ℕ → Bool
ends_line [] = true
ends_line (b ∷ bs) = b == 10

-- the text begins with a line that is exactly `history`
abbrev pub begins_history : List ℕ → Bool
begins_history text = bytes_eq (take 7 text) (codes "history") && ends_line (drop 7 text)

-- a text, at the start of a line or elsewhere, in two: what stands before the first line that is exactly `history`, and
-- what stands behind it
abbrev pub divided : Bool → List ℕ → List ℕ × List ℕ
divided starts [] = ([], [])
divided starts (b ∷ bs) =
    if starts && begins_history (b ∷ bs) then ([], drop 8 (b ∷ bs))
    else (b ∷ (divided (b == 10) bs).0, (divided (b == 10) bs).1)

-- the script's part of what is read, and the history's
abbrev pub script_part : List ℕ → List ℕ
script_part bytes = (divided true bytes).0

abbrev pub history_part : List ℕ → List ℕ
history_part bytes = (divided true bytes).1

-- the text's last byte is a line feed
abbrev pub ends_in_feed : List ℕ → Bool
ends_in_feed [] = false
ends_in_feed (b ∷ []) = b == 10
ends_in_feed (b ∷ c ∷ bs) = ends_in_feed (c ∷ bs)

-- no line of the text is exactly `history`
abbrev pub HasNoHistoryLine : List ℕ → Type 0
HasNoHistoryLine text = divided true text ≡ (text, [])

-- a script's text, the line `history`, and a history's lines
abbrev pub audited : List ℕ → List ℕ → List ℕ
audited text lines = text ++ (codes "history\n" ++ lines)

-- all bytes that the source had are a script and a text with this verdict
pub record IsAuditOf (left now : Option (List ℕ)) (verdict : Result ℕ (ℕ × AuditRule)) : Type 0 where
  pub bytes : List ℕ
  pub all : ReadsAll left now bytes
  pub script : ScriptData
  pub read : read_of (script_part bytes) ≡ Ok script
  pub judged : Verdict script (history_part bytes) verdict

-- the script's part of all bytes of the source is refused with this fault, or more bytes came than are read
abbrev pub RefusesPart : Option (List ℕ) → Option (List ℕ) → ScriptFault → Type 0
RefusesPart left now f = ((bytes : List ℕ) × ReadsAll left now bytes × (read_of (script_part bytes) ≡ Err f))
    ⊎ ((f ≡ fault 0 why.TooLong) × HasMoreThan MOST_AUDIT_BYTES left)

-- the line of a history of that many entries that is accepted
abbrev pub accepted_line : ℕ → List ℕ
accepted_line n = count_text (codes "history ok entries ") n ++ codes "\n"

-- all bytes that the source had are accepted, and the text is the line that says so
abbrev pub IsAcceptance : Option (List ℕ) → Option (List ℕ) → List ℕ → Type 0
IsAcceptance left now text = (n : ℕ) × IsAuditOf left now (Ok n) × (text ≡ accepted_line n)

-- what must be so for an audit to stop so; out of memory may always come
abbrev pub HasAuditCause : Option (List ℕ) → Option (List ℕ) → Type 0 → AuditStop → Type 0
HasAuditCause left now failed stops.NoMemory = ⊤
HasAuditCause left now failed stops.Reading = failed
HasAuditCause left now failed (stops.Script f) = RefusesPart left now f
HasAuditCause left now failed (stops.History f) = IsAuditOf left now (Err (f.entry, f.rule))

-- the same of a source, by what it has left and how often it has failed
abbrev pub StopsAudit : {S : Type 0} → (S → Option (List ℕ)) → (S → ℕ) → S → S → AuditStop → Type 0
StopsAudit left faults old new stop = HasAuditCause (left old) (left new) (Rose (faults old) (faults new)) stop
