-- The parts of the report are the report.
use Rattle.std.proofs.Common.{◌≡◌, ℕ, ◌+◌, List, [], ◌++◌, ap, ◌∙◌, append_assoc}
use Rattle.letter_types.specs.declared.entries.Entry.{Entry}
use Rattle.tx_trees.specs.ScriptData.{ScriptData}
use Rattle.tx_trees.specs.Adding.{advances_in}
use Rattle.board_model.specs.Ballots.{ballots_of}
use Rattle.board_model.specs.Balances.{worths, written_items}
use Rattle.board_model.specs.Standings.{standings_of}
use Rattle.report_text.specs.inside.Lines.{rows_lines, trees_lines}
use Rattle.report_text.specs.Report.{items_text, nodes_text, report_of, trees_text}
use Rattle.report_text.specs.inside.Served.{AreRead}
use Rattle.report_text.proofs.ItemLines.{items_all}
use Rattle.report_text.proofs.TreeLines.{lines_all}

pub whole : (s : ScriptData) (h : List Entry) (texts : List (List ℕ)) (t0 t1 t2 t3 : List ℕ) → AreRead s h texts → t0 ≡ []
    → t1 ≡ t0 ++ trees_lines s 0 s.trees (standings_of s h) texts (ballots_of s h) → t2 ≡ t1 ++ nodes_text (advances_in s.rows) s.nodes
    → t3 ≡ t2 ++ rows_lines (advances_in s.rows) s.items (worths s h (advances_in s.rows)) (worths s h (advances_in s.rows + 1)) (written_items s h (advances_in s.rows + 1))
    → t3 ≡ report_of s h
whole s h texts t0 t1 t2 t3 read e0 e1 e2 e3 =
    let trees : List ℕ = trees_text s h 0 s.trees in
    let nodes : List ℕ = nodes_text (advances_in s.rows) s.nodes in
    let items : List ℕ = items_text s h (advances_in s.rows) 0 s.items in
    let first : t1 ≡ trees
    = e1 ∙ ap (λ (z : List ℕ). z ++ trees_lines s 0 s.trees (standings_of s h) texts (ballots_of s h)) e0 ∙ lines_all s h texts read in
    e3
    ∙ ap (λ (z : List ℕ). t2 ++ z) (items_all s h (advances_in s.rows))
    ∙ ap (λ (z : List ℕ). z ++ items) (e2 ∙ ap (λ (z : List ℕ). z ++ nodes) first)
    ∙ append_assoc trees nodes items
