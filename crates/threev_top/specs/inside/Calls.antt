-- What the top call reads and writes. These are the definitions that private code alone cites.
use Rattle.std.specs.Prelude.{ℕ, ◌≡◌, ◌⊎◌, List, Option}
use Rattle.tv_base.specs.declared.moving.ReadEnd.{ReadEnd}
use Rattle.tv_base.specs.declared.moving.ReadEnd.TheVariants as ends
use Rattle.command_words.specs.declared.WordsError.{WordsError}
use Rattle.command_words.specs.declared.WordsError.TheVariants as errors
use Rattle.tx_trees.specs.declared.why.Why.TheVariants as why
use Rattle.script_reader.specs.Reading.{fault}
use Rattle.script_reader.specs.declared.reading.ScriptRefusal.{ScriptRefusal}
use Rattle.script_reader.specs.declared.reading.ScriptRefusal.TheVariants as refusals
use Rattle.history_audit.specs.declared.source_audit.AuditStop.{AuditStop}
use Rattle.history_audit.specs.declared.source_audit.AuditStop.TheVariants as audits
use Rattle.threev_top.specs.declared.modes.Output.{Output}
use Rattle.threev_top.specs.declared.modes.Output.TheVariants as outputs
use Rattle.threev_top.specs.declared.stops.Stop.{Stop}
use Rattle.threev_top.specs.declared.stops.Stop.TheVariants as stops
use Rattle.threev_top.specs.declared.texts.TheConstants.{HELP, VERSION}
use Rattle.command_words.specs.declared.Line.{Line}
use Rattle.command_words.specs.declared.ScriptMode.{ScriptMode}
use Rattle.threev_top.specs.Calls.{IsTextBy, IsTextOf, WroteBy}
use Rattle.threev_top.specs.declared.modes.MadeText.{MadeText}

-- what is written
abbrev pub bytes_of : Output → List ℕ
bytes_of (outputs.Text text) = text
bytes_of outputs.Help = HELP.now
bytes_of outputs.Version = VERSION.now

-- this was made of the script that the source had, in this mode; by this line; and by these words, if they are a line
abbrev pub IsMadeIn : ScriptMode → Option (List ℕ) → Option (List ℕ) → MadeText → Type 0
IsMadeIn mode left now made = IsTextOf mode left now made.history (bytes_of made.output)

abbrev pub IsMadeBy : Line → Option (List ℕ) → Option (List ℕ) → MadeText → Type 0
IsMadeBy line left now made = IsTextBy line left now made.history (bytes_of made.output)

abbrev pub IsMadeFor : Option Line → Option (List ℕ) → Option (List ℕ) → MadeText → Type 0
IsMadeFor line left now made = WroteBy (λ text. text ≡ bytes_of made.output) line left now made.history

-- why a text is no script
abbrev pub script_stop : ScriptRefusal → Stop
script_stop (refusals.Fault f) = stops.Script f
script_stop refusals.NoMemory = stops.NoMemory

-- why the words gave no line
abbrev pub words_stop : WordsError → Stop
words_stop errors.Refused = stops.Words
words_stop errors.NoMemory = stops.NoMemory

-- why reading gave no bytes
abbrev pub reading_stop : ReadEnd → Stop
reading_stop ends.TooLong = stops.Script (fault 0 why.TooLong)
reading_stop ends.Failed = stops.Reading
reading_stop ends.NoMemory = stops.NoMemory

-- why an audit accepts nothing
abbrev pub audit_stop : AuditStop → Stop
audit_stop audits.NoMemory = stops.NoMemory
audit_stop audits.Reading = stops.Reading
audit_stop (audits.Script f) = stops.Script f
audit_stop (audits.History f) = stops.History f

-- what is told of a stop: the stop, or out of memory if the line of a refused script or history finds none
abbrev pub MayTell : Stop → Stop → Type 0
MayTell (stops.History f) told = (told ≡ stops.History f) ⊎ (told ≡ stops.NoMemory)
MayTell (stops.Script f) told = (told ≡ stops.Script f) ⊎ (told ≡ stops.NoMemory)
MayTell stop told = told ≡ stop
