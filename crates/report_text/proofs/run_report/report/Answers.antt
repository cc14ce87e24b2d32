use Rattle.std.proofs.Common.{◌≡◌, ℕ, ◌+◌, ◌++◌, Bool, List, length, ap, sym, ◌∙◌, subst}
use Rattle.commute_ops.specs.declared.value.Value.{Value}
use Rattle.letter_types.specs.declared.acts.Act.{Act}
use Rattle.letter_types.specs.declared.entries.Entry.{Entry}
use Rattle.tx_trees.specs.Adding.{advances_in}
use Rattle.tx_trees.specs.ScriptData.{ScriptData}
use Rattle.tx_trees.specs.declared.parts.ItemRow.{ItemRow}
use Rattle.tx_trees.specs.declared.parts.Tree.{Tree}
use Rattle.board_model.specs.declared.standings.Standing.{Standing}
use Rattle.board_model.specs.Ballots.{ballots_of}
use Rattle.board_model.specs.Balances.{worths, written_items}
use Rattle.board_model.proofs.Voting.{length-ballots_of}
use Rattle.board_model.specs.Standings.{standings_of}
use Rattle.report_text.specs.inside.Lines.{rows_lines, trees_lines}
use Rattle.tx_trees.specs.AsciiNames.{AreAsciiItems, AreAsciiTrees}
use Rattle.report_text.specs.Report.{nodes_text}
use Rattle.report_text.proofs.ItemLines.{length-worths, length-written}
use Rattle.tx_trees.proofs.AsciiNames.{items_ascii, trees_ascii}
use Rattle.report_text.proofs.PlainLines.{only_strict_vote}
use Rattle.report_text.proofs.TreeLines.{length-standings_of}
use Rattle.report_text.proofs.Whole.{whole}
use Rattle.report_text.proofs.run_report.report.Goals as goal

pub push_trees-requires-clause-names : goal.push_trees-requires-clause-names
push_trees-requires-clause-names c =
    let s : ScriptData = c.args.script.now in
    subst AreAsciiTrees (sym c.trees-trees.ensures.trees) (trees_ascii s.nodes s.items s.trees c.trees-trees.ensures.valid.trees)

pub push_trees-requires-clause-standings : goal.push_trees-requires-clause-standings
push_trees-requires-clause-standings c =
    ap (λ (z : List Standing). length z) (c.items-standings.ensures.items ∙ c.in_ok-outcomes.ensures.standings)
    ∙ length-standings_of c.args.script.now c.args.history.now
    ∙ sym (ap (λ (z : List Tree). length z) c.trees-trees.ensures.trees)

pub push_trees-requires-clause-ballots : goal.push_trees-requires-clause-ballots
push_trees-requires-clause-ballots c =
    ap (λ (z : List (List Act)). length z) (c.rows-votes.ensures ∙ c.in_ok-ballots.ensures)
    ∙ length-ballots_of c.args.script.now c.history_of_votes-voting.result.now
    ∙ sym (ap (λ (z : List Tree). length z) c.trees-trees.ensures.trees)

pub push_rows-requires-clause-names : goal.push_rows-requires-clause-names
push_rows-requires-clause-names c =
    let s : ScriptData = c.args.script.now in
    subst AreAsciiItems (sym c.items-rows.ensures.items) (items_ascii s.nodes s.items c.items-rows.ensures.valid.items)

pub push_rows-requires-clause-shown : goal.push_rows-requires-clause-shown
push_rows-requires-clause-shown c =
    ap (λ (z : List Value). length z) (c.items-balances.ensures.items ∙ c.in_ok-shown.ensures.balances)
    ∙ length-worths c.args.script.now c.args.history.now c.advances-advances.result
    ∙ sym (ap (λ (z : List ItemRow). length z) c.items-rows.ensures.items)

pub push_rows-requires-clause-later : goal.push_rows-requires-clause-later
push_rows-requires-clause-later c =
    ap (λ (z : List Value). length z) (c.items-later.ensures.items ∙ c.in_ok-shown.ensures.later)
    ∙ length-worths c.args.script.now c.args.history.now (c.advances-advances.result + 1)
    ∙ sym (ap (λ (z : List ItemRow). length z) c.items-rows.ensures.items)

pub push_rows-requires-clause-written : goal.push_rows-requires-clause-written
push_rows-requires-clause-written c =
    ap (λ (z : List Bool). length z) (c.items-marks.ensures.items ∙ c.in_ok-written.ensures)
    ∙ length-written c.args.script.now c.args.history.now (c.advances-advances.result + 1)
    ∙ sym (ap (λ (z : List ItemRow). length z) c.items-rows.ensures.items)

pub returns : goal.returns
returns c =
    let s : ScriptData = c.args.script.now in
    let h : List Entry = c.args.history.now in
    let n : ℕ = c.advances-advances.result in
    let texts : List (List ℕ) = c.in_ok-shown.shown.reads in
    let t1 : List ℕ = c.push_trees.new.text in
    let t2 : List ℕ = c.push_nodes.new.text in
    let count : n ≡ advances_in s.rows = c.advances-advances.ensures in
    let trees : t1 ≡ c.new-text.result ++ trees_lines s 0 s.trees (standings_of s h) texts (ballots_of s h)
    = c.in_ok-push_trees.ensures
    ∙ ap (λ (z : List Tree). c.new-text.result ++ trees_lines s 0 z c.items-standings.result.now c.items-reads.result.now c.rows-votes.result.now) c.trees-trees.ensures.trees
    ∙ ap (λ (z : List Standing). c.new-text.result ++ trees_lines s 0 s.trees z c.items-reads.result.now c.rows-votes.result.now) (c.items-standings.ensures.items ∙ c.in_ok-outcomes.ensures.standings)
    ∙ ap (λ (z : List (List ℕ)). c.new-text.result ++ trees_lines s 0 s.trees (standings_of s h) z c.rows-votes.result.now) c.items-reads.ensures.items
    ∙ ap (λ (z : List (List Act)). c.new-text.result ++ trees_lines s 0 s.trees (standings_of s h) texts z) (c.rows-votes.ensures ∙ c.in_ok-ballots.ensures)
    ∙ ap (λ (z : List Entry). c.new-text.result ++ trees_lines s 0 s.trees (standings_of s h) texts (ballots_of s z)) c.history_of_votes-voting.ensures
    ∙ ap (λ (z : List ℕ). c.new-text.result ++ z) (only_strict_vote s h (standings_of s h) texts) in
    let nodes : t2 ≡ t1 ++ nodes_text (advances_in s.rows) s.nodes
    = c.in_ok-push_nodes.ensures
    ∙ ap (λ (z : ℕ). t1 ++ nodes_text n z) c.nodes-nodes.ensures.nodes
    ∙ ap (λ (z : ℕ). t1 ++ nodes_text z s.nodes) count in
    let items : c.push_rows.new.text
    ≡ t2 ++ rows_lines (advances_in s.rows) s.items (worths s h (advances_in s.rows)) (worths s h (advances_in s.rows + 1)) (written_items s h (advances_in s.rows + 1))
    = c.in_ok-push_rows.ensures
    ∙ ap (λ (z : List ItemRow). t2 ++ rows_lines n z c.items-balances.result.now c.items-later.result.now c.items-marks.result.now) c.items-rows.ensures.items
    ∙ ap (λ (z : List Value). t2 ++ rows_lines n s.items z c.items-later.result.now c.items-marks.result.now) (c.items-balances.ensures.items ∙ c.in_ok-shown.ensures.balances)
    ∙ ap (λ (z : List Value). t2 ++ rows_lines n s.items (worths s h n) z c.items-marks.result.now) (c.items-later.ensures.items ∙ c.in_ok-shown.ensures.later)
    ∙ ap (λ (z : List Bool). t2 ++ rows_lines n s.items (worths s h n) (worths s h (n + 1)) z) (c.items-marks.ensures.items ∙ c.in_ok-written.ensures)
    ∙ ap (λ (k : ℕ). t2 ++ rows_lines k s.items (worths s h k) (worths s h (k + 1)) (written_items s h (k + 1))) count in
    whole s h texts c.new-text.result t1 t2 c.push_rows.new.text c.in_ok-shown.ensures.reads c.new-text.ensures trees nodes items
