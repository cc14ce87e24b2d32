-- The lines of runs, and what is said of them.
use Rattle.std.specs.Prelude.{ℕ, ◌≡◌, true, List, [], length, Some, Ok}
use Rattle.std.specs.List.{AllByRecursion}
use Rattle.letter_types.specs.declared.entries.Entry.{Entry}
use Rattle.tx_trees.specs.ScriptData.{ScriptData}
use Rattle.tx_trees.specs.Valid.{IsValid}
use Rattle.world_model.specs.Runs.{IsWorldRun}
use Rattle.board_rules.specs.Right.{HasFinished}
use Rattle.history_text.specs.History.{history_lines_of}
use Rattle.history_text.specs.Printable.{IsPrintable}
use Rattle.history_reader.specs.Walks.{Reading}
use Rattle.history_audit.specs.Audits.{HasNoHistoryLine, IsAuditOf, audited, ends_in_feed}
use Rattle.history_audit.specs.Verdicts.{Verdict}
use Rattle.script_reader.specs.Reading.{read_of}

-- what holds of each run, each entry of which may be printed; and of those of them of valid scripts that have finished
abbrev pub OfEachPrinted : (ScriptData → List Entry → Type 0) → Type 0
OfEachPrinted P = (s : ScriptData) (h : List Entry) → IsWorldRun s h → AllByRecursion (IsPrintable s) h → P s h

abbrev pub OfEachFinished : (ScriptData → List Entry → Type 0) → Type 0
OfEachFinished P = (s : ScriptData) (h : List Entry) → IsValid s → IsWorldRun s h → HasFinished h
    → AllByRecursion (IsPrintable s) h → P s h

-- the lines of the history are read as it, with the messages that were taken
abbrev pub ReadsBack : ScriptData → List Entry → Type 0
ReadsBack s h = Reading s (history_lines_of s h) (Ok h)

-- they are accepted, with all its entries
abbrev pub IsPassed : ScriptData → List Entry → Type 0
IsPassed s h = Verdict s (history_lines_of s h) (Ok (length h))

-- mode audit accepts them behind the script's text and the line `history`, if the text ends with a line feed and has
-- no such line
abbrev pub PassesAudits : ScriptData → List Entry → Type 0
PassesAudits s h =
    (text : List ℕ) → read_of text ≡ Ok s → ends_in_feed text ≡ true → HasNoHistoryLine text
    → IsAuditOf (Some (audited text (history_lines_of s h))) (Some []) (Ok (length h))
