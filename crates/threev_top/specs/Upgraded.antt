-- A script and the same in the second form have the same runs.
use Rattle.std.specs.Prelude.{◌≡◌, ◌↔◌, List}
use Rattle.letter_types.specs.declared.entries.Entry.{Entry}
use Rattle.tx_trees.specs.Adding.{upgraded}
use Rattle.tx_trees.specs.ScriptData.{ScriptData}
use Rattle.report_text.specs.Report.{report_of}
use Rattle.world_model.specs.Runs.{IsWorldRun}

-- this history is a run of both or of neither, and its reports are equal
abbrev pub HasSameRun : ScriptData → List Entry → Type 0
HasSameRun s h = (IsWorldRun s h ↔ IsWorldRun (upgraded s) h) × (report_of s h ≡ report_of (upgraded s) h)
