-- The lines of a run that has finished are accepted, and those of any run are read back.
use Rattle.std.proofs.Common.{List, [], inl, inr, refl, sym}
use Rattle.std.specs.Prelude.{length, Ok}
use Rattle.std.specs.List.{AllByRecursion}
use Rattle.std.proofs.lemmas.List.{append-nil}
use Rattle.letter_types.specs.declared.entries.Entry.{Entry}
use Rattle.tx_trees.specs.ScriptData.{ScriptData}
use Rattle.board_rules.specs.Judging.{IsAccepted}
use Rattle.board_rules.specs.Right.{HasFinished}
use Rattle.world_model.specs.Runs.{IsWorldRun}
use Rattle.history_text.specs.History.{history_lines_of}
use Rattle.history_text.specs.Printable.{IsPrintable}
use Rattle.history_reader.specs.Walks.{IsRead, Reading, Whole}
use Rattle.history_audit.specs.Verdicts.{Verdict, Yes}

all_read : (s : ScriptData) (h : List Entry) → IsWorldRun s h → AllByRecursion (IsPrintable s) h
    → IsRead s (history_lines_of s h) h []
all_read s h run may = record {
  begins = record { lines = sym (append-nil (history_lines_of s h)); may = may; ends = inr (inl refl) };
  postal = run.postal;
}

pub printed_run : (s : ScriptData) (h : List Entry) → IsWorldRun s h → HasFinished h → AllByRecursion (IsPrintable s) h
    → IsAccepted s h → Verdict s (history_lines_of s h) (Ok (length h))
printed_run s h run finished may accepted =
    Yes h
    (record { read = all_read s h run may; accepted = accepted })
    finished

pub printed_read : (s : ScriptData) (h : List Entry) → IsWorldRun s h → AllByRecursion (IsPrintable s) h
    → Reading s (history_lines_of s h) (Ok h)
printed_read s h run may =
    Whole h (all_read s h run may)
