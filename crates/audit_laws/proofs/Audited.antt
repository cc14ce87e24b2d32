-- A script's text, the line `history` and the lines of a run that has finished pass an audit.
use Rattle.std.proofs.Common.{◌≡◌, ℕ, true, List, [], ap, refl, subst, sym, ◌∙◌, Ok, Some}
use Rattle.std.specs.Prelude.{length}
use Rattle.std.proofs.lemmas.List.{append-nil}
use Rattle.letter_types.specs.declared.entries.Entry.{Entry}
use Rattle.tx_trees.specs.ScriptData.{ScriptData}
use Rattle.history_text.specs.History.{history_lines_of}
use Rattle.script_reader.specs.Reading.{read_of}
use Rattle.history_audit.specs.Audits.{HasNoHistoryLine, IsAuditOf, audited, ends_in_feed, history_part, script_part}
use Rattle.history_audit.specs.Verdicts.{Verdict}
use Rattle.history_audit.proofs.Joined.{joined}

pub run_passes : (text : List ℕ) (s : ScriptData) (h : List Entry) → read_of text ≡ Ok s → ends_in_feed text ≡ true → HasNoHistoryLine text
    → Verdict s (history_lines_of s h) (Ok (length h)) → IsAuditOf (Some (audited text (history_lines_of s h))) (Some []) (Ok (length h))
run_passes text s h read ends none verdict =
    let apart = joined text (history_lines_of s h) ends none in
    let first : script_part (audited text (history_lines_of s h)) ≡ text = ap (λ (p : List ℕ × List ℕ). p.0) apart in
    let second : history_part (audited text (history_lines_of s h)) ≡ history_lines_of s h = ap (λ (p : List ℕ × List ℕ). p.1) apart in
    record {
      bytes = audited text (history_lines_of s h);
      all = (sym (append-nil (audited text (history_lines_of s h))), refl);
      script = s;
      read = ap read_of first ∙ read;
      judged = subst (λ (lines : List ℕ). Verdict s lines (Ok (length h))) (sym second) verdict;
    }
