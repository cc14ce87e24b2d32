-- What the top call reads and writes.
use Rattle.std.specs.Prelude.{ℕ, Bool, true, false, ◌≡◌, ◌≢◌, ◌+◌, ◌++◌, ◌⊎◌, List, [], Option, Some, None, Ok, Err, IsTrue, ⊤}
use Rattle.std.specs.Io.KnownBytes.{Appends}
use Rattle.tv_base.specs.Outside.{AppendsFront, HasMoreThan, HasTaken, Rose}
use Rattle.tv_base.specs.declared.moving.TheConstants.{MOST_BYTES}
use Rattle.history_audit.specs.Audits.{IsAuditOf, ReadsAll, RefusesPart, accepted_line}
use Rattle.history_audit.specs.declared.source_audit.HistoryFault.{HistoryFault}
use Rattle.history_audit.specs.declared.source_audit.TheConstants.{MOST_AUDIT_BYTES}
use Rattle.command_words.specs.declared.Line.{Line}
use Rattle.command_words.specs.declared.Line.TheVariants as lines
use Rattle.command_words.specs.declared.ScriptMode.{ScriptMode}
use Rattle.command_words.specs.declared.ScriptMode.TheVariants as modes
use Rattle.letter_types.specs.declared.entries.Entry.{Entry}
use Rattle.tx_trees.specs.ScriptData.{ScriptData}
use Rattle.tx_trees.specs.declared.why.Why.TheVariants as why
use Rattle.script_reader.specs.Reading.{fault, read_of}
use Rattle.script_reader.specs.Written.{written}
use Rattle.tx_trees.specs.Adding.{upgraded}
use Rattle.script_reader.specs.declared.reading.ScriptFault.{ScriptFault}
use Rattle.report_text.specs.Report.{report_of}
use Rattle.report_text.specs.Lines.{check_line_of}
use Rattle.world_model.specs.Scheduled.{IsScheduled}
use Rattle.headline.specs.Headline.{HasHeadline}
use Rattle.history_text.specs.History.{history_lines_of}
use Rattle.script_gen.specs.Generated.{generated}
use Rattle.report_text.specs.Summary.{summary_of}
use Rattle.headline.specs.Ended.{HasEnded}
use Rattle.threev_top.specs.Texts.{line_told, status_of}
use Rattle.threev_top.specs.declared.stops.Stop.{Stop}
use Rattle.threev_top.specs.declared.stops.Stop.TheVariants as stops
use Rattle.threev_top.specs.declared.texts.TheConstants.{HELP, VERSION}
use Rattle.threev_top.specs.declared.calls.Ended.{Ended}

-- the report of a history, and its lines after it if they are asked for
abbrev pub report_with : Bool → ScriptData → List Entry → List ℕ
report_with false s h = report_of s h
report_with true s h = report_of s h ++ history_lines_of s h

-- what a mode writes of a script, and the history that it gives: a run has the headline; on one thread messages are
-- taken by the script's picks, and then by the draws of a seed, or without one the oldest first
abbrev pub IsText : ScriptMode → ScriptData → List Entry → List ℕ → Type 0
IsText modes.Check s h text = (h ≡ []) × (text ≡ check_line_of s)
IsText (modes.Sim seed lines) s h text = HasEnded s h × IsScheduled s seed h × (text ≡ report_with lines s h)
IsText (modes.Run workers lines) s h text = HasHeadline s h × (text ≡ report_with lines s h)
IsText modes.Upgrade s h text = (h ≡ []) × (text ≡ written (upgraded s))

-- all bytes that the source had are a script, and this is its history and text in this mode
pub record IsTextOf (mode : ScriptMode) (left now : Option (List ℕ)) (history : List Entry) (text : List ℕ) : Type 0 where
  pub bytes : List ℕ
  pub all : ReadsAll left now bytes
  pub script : ScriptData
  pub read : read_of bytes ≡ Ok script
  pub is_text : IsText mode script history text

-- the history and the text of a line: a mode's, of the script that the source had; the summary of a run of the script
-- that a seed makes, which has the headline; of an audit, how many entries the history has that the source had behind
-- its script, and that is accepted whole; the help or the version
abbrev pub IsTextBy : Line → Option (List ℕ) → Option (List ℕ) → List Entry → List ℕ → Type 0
IsTextBy (lines.OfScript mode) left now history text = IsTextOf mode left now history text
IsTextBy (lines.Soak workers seed trees) left now history text =
    HasHeadline (generated seed trees) history × (text ≡ summary_of (generated seed trees) history seed)
IsTextBy lines.Audit left now history text =
    (history ≡ []) × ((n : ℕ) × IsAuditOf left now (Ok n) × (text ≡ accepted_line n))
IsTextBy lines.Help left now history text = (history ≡ []) × (text ≡ HELP.now)
IsTextBy lines.Version left now history text = (history ≡ []) × (text ≡ VERSION.now)

-- the words are a line, and its text has been received, as `receives` says of a text: whole, or a prefix of it
abbrev pub WroteBy : (List ℕ → Type 0) → Option Line → Option (List ℕ) → Option (List ℕ) → List Entry → Type 0
WroteBy receives None left now history = ⊥
WroteBy receives (Some line) left now history = (text : List ℕ) × IsTextBy line left now history text × receives text

-- this line reads a script; for all others the source is left alone
abbrev pub reads_script : Option Line → Bool
reads_script (Some (lines.OfScript mode)) = true
reads_script (Some lines.Audit) = true
reads_script _ = false

-- the most bytes that this line reads
abbrev pub most_bytes : Option Line → ℕ
most_bytes (Some lines.Audit) = MOST_AUDIT_BYTES
most_bytes _ = MOST_BYTES

-- all bytes of the source are refused with this fault, or more bytes came than a script may have; of an audit the
-- script's part is refused, or more bytes came than are read
abbrev pub Refuses : Option Line → Option (List ℕ) → Option (List ℕ) → ScriptFault → Type 0
Refuses (Some lines.Audit) left now f = RefusesPart left now f
Refuses _ left now f = ((bytes : List ℕ) × ReadsAll left now bytes × (read_of bytes ≡ Err f))
    ⊎ ((f ≡ fault 0 why.TooLong) × HasMoreThan MOST_BYTES left)

-- the line is an audit, and the history behind the script that the source had fails first so
abbrev pub FailsAudit : Option Line → Option (List ℕ) → Option (List ℕ) → HistoryFault → Type 0
FailsAudit line left now f = (line ≡ Some lines.Audit) × IsAuditOf left now (Err (f.entry, f.rule))

-- what must be so for a call to stop so: out of memory may always come; the words are no line; the script that the line
-- reads is refused, or its source failed; the output failed; the history that is audited fails
abbrev pub HasCause : Option Line → Option (List ℕ) → Option (List ℕ) → Type 0 → Type 0 → Stop → Type 0
HasCause line left now source_failed out_failed stops.NoMemory = ⊤
HasCause line left now source_failed out_failed stops.Words = line ≡ None
HasCause line left now source_failed out_failed (stops.Script f) = IsTrue (reads_script line) × Refuses line left now f
HasCause line left now source_failed out_failed stops.Reading = IsTrue (reads_script line) × source_failed
HasCause line left now source_failed out_failed stops.Writing = out_failed
HasCause line left now source_failed out_failed (stops.History f) = FailsAudit line left now f

-- the same before anything is written, of a source
abbrev pub StopsMaking : {S : Type 0} → (S → Option (List ℕ)) → (S → ℕ) → S → S → Option Line → Stop → Type 0
StopsMaking left faults source source' line stop =
    HasCause line (left source) (left source') (Rose (faults source) (faults source')) ⊥ stop

-- nothing hinders a call: its words are a line, the output has no fault, and if the line reads a script, the source
-- has no fault, the script is accepted, and the history that is audited doesn't fail
pub record IsUnhindered {S K : Type 0} (left : S → Option (List ℕ)) (read_faults : S → ℕ) (source source' : S)
    (write_faults : K → ℕ) (out out' : K) (line : Option Line) : Type 0 where
  pub is_line : line ≢ None
  pub writes : Rose (write_faults out) (write_faults out') → ⊥
  pub reads : IsTrue (reads_script line) → Rose (read_faults source) (read_faults source') → ⊥
  pub accepted : IsTrue (reads_script line) → (f : ScriptFault) → Refuses line (left source) (left source') f → ⊥
  pub stands : IsTrue (reads_script line) → (f : HistoryFault) → FailsAudit line (left source) (left source') f → ⊥

-- how a call with this line ends, with a stop or without one, and what it leaves of its source and its output
pub record EndsAs {S K : Type 0} (left : S → Option (List ℕ)) (read_faults : S → ℕ) (source source' : S)
    (received : K → Option (List ℕ)) (write_faults : K → ℕ) (out out' : K)
    (line : Option Line) (stop : Option Stop) (history : List Entry) : Type 0 where
  -- without a stop the output has received the text of the line
  pub wrote : stop ≡ None
      → WroteBy (Appends (received out) (received out')) line (left source) (left source') history
  -- if writing failed it has received a prefix of that text
  pub front : stop ≡ Some stops.Writing
      → WroteBy (AppendsFront (received out) (received out')) line (left source) (left source') history
  -- each stop has its cause
  pub cause : (s : Stop) → stop ≡ Some s → HasCause line (left source) (left source')
      (Rose (read_faults source) (read_faults source')) (Rose (write_faults out) (write_faults out')) s
  -- every other stop comes before writing: the output is left alone, and there is no history
  pub nothing : (s : Stop) → stop ≡ Some s → s ≢ stops.Writing → (out' ≡ out) × (history ≡ [])
  -- a line that reads no script leaves the source alone
  pub unread : reads_script line ≡ false → source' ≡ source
  -- at most one byte more is taken than the line reads
  pub taken : HasTaken (most_bytes line + 1) (left source) (left source')

-- the line was written, or a prefix of it if a fault was counted
abbrev pub Tells : Option (List ℕ) → Option (List ℕ) → ℕ → ℕ → List ℕ → Type 0
Tells written after before now line = Appends written after line ⊎ (AppendsFront written after line × Rose before now)

-- how the end of a call is told: by its status, and on standard error, which is left alone if there was no stop
pub record TellsEnd {E : Type 0} (received : E → Option (List ℕ)) (faults : E → ℕ) (err err' : E)
    (stop : Option Stop) (status : ℕ) : Type 0 where
  pub number : status ≡ status_of stop
  pub quiet : stop ≡ None → err' ≡ err
  pub line : (s : Stop) → stop ≡ Some s
      → Tells (received err) (received err') (faults err) (faults err') (line_told s)

-- a call ends so, with some stop or without one, and tells it so
abbrev pub EndsSo : {S K E : Type 0} → (S → Option (List ℕ)) → (S → ℕ) → S → S → (K → Option (List ℕ)) → (K → ℕ) → K → K
    → (E → Option (List ℕ)) → (E → ℕ) → E → E → Option Line → Ended → Type 0
EndsSo left read_faults source source' received write_faults out out' told faults err err' line ended =
    (stop : Option Stop)
    × EndsAs left read_faults source source' received write_faults out out' line stop ended.history
    × TellsEnd told faults err err' stop ended.status
