-- If the client has finished: every transaction is answered and complete, and every node is at rest.
use Rattle.std.proofs.Common.{◌≡◌, ℕ, ◌+◌, ◌<◌, ◌≤◌, true, false, List, length, get_or, reverse, arith}
use Rattle.std.specs.Prelude.{nat_le}
use Rattle.std.proofs.lemmas.Bool.{and_parts, leb-true}
use Rattle.letter_types.specs.declared.entries.Entry.{Entry}
use Rattle.node_versions.specs.declared.turns.Turns.{Turns}
use Rattle.tx_trees.specs.Counts.{advances_in}
use Rattle.tx_trees.specs.ScriptData.{ScriptData}
use Rattle.tx_trees.specs.Valid.{IsValid}
use Rattle.tx_trees.proofs.Rebuilding.{asked_most}
use Rattle.board_rules.specs.Histories.{IsWhole, Place, places_of}
use Rattle.board_rules.specs.Right.{HasFinished, finishes}
use Rattle.world_model.specs.Client.{all_answered}
use Rattle.world_model.specs.Runs.{IsStepRun, client_in, node_in}
use Rattle.advance_laws.proofs.governed.Advancing.{IsAdvancing}
use Rattle.tree_laws.specs.Ends.{is_finish}
use Rattle.tree_laws.proofs.histories.Acts.{any_counted, finish_marks, of_act}
use Rattle.tree_laws.proofs.homes.Finishes.{finishes_of, is_true_of}
use Rattle.run_laws.proofs.each_tree.InTime.{advancing_run}
use Rattle.headline.proofs.Answered.{answered_whole, answered_yet}
use Rattle.headline.proofs.Finishing.{finishing_run}
use Rattle.headline.proofs.Opens.{answered_at}
use Rattle.headline.proofs.TreeRows.{row_there}

-- after so many advancements, of which none is in progress, a node updates the next version, and reads and keeps the last one shown
pub record AreAtRest (advancements : ℕ) (turns : Turns) : Type 0 where
  pub update : turns.update.0 ≡ advancements + 1
  pub read : turns.read.0 ≡ advancements
  pub low : turns.low.0 ≡ advancements

-- the client has heard of every tree, and every node is at rest after all advancements of the script
pub record IsAtEnd (s : ScriptData) (past : List Entry) : Type 0 where
  pub heard : (t : ℕ) → t < length s.trees → get_or (client_in s past).answered t false ≡ true
  pub turns : (p : ℕ) → p < s.nodes → AreAtRest (advances_in s.rows) (node_in s past p).turns

-- what has ended everywhere isn't more than what was asked for, so a node is where both meet
at_rest : (s : ScriptData) (past : List Entry) (p : ℕ) → IsAdvancing s past → p < s.nodes → advances_in s.rows ≤ (client_in s past).ended
    → AreAtRest (advances_in s.rows) (node_in s past p).turns
at_rest s past p all lt ended =
    let at = all.within p lt in
    let asked = asked_most (client_in s past).next s.rows in
    record {
      update = omega (arith, at, all.asked, asked, all.heard p lt, ended);
      read = omega (arith, at, all.asked, asked, all.heard p lt, ended);
      low = omega (arith, at, all.asked, asked, all.heard p lt, ended);
    }

pub over_run : (s : ScriptData) (past : List Entry) → IsValid s → IsStepRun s past → (client_in s past).finished ≡ true → IsAtEnd s past
over_run s past valid run now =
    let c = client_in s past in
    let over = (finishing_run s past valid run).over now in
    let parts = and_parts (all_answered c.answered s.rows) (nat_le (advances_in s.rows) c.ended) over.ended in
    record {
      heard = λ t lt. let (i, less, row) = row_there s t valid lt in answered_at c.answered i t s.rows parts.0 row;
      turns = λ p lt. at_rest s past p (advancing_run s past valid run) lt (leb-true (advances_in s.rows) c.ended parts.1);
    }

-- So at the end of a history that says that the client has finished.
finished_by : (s : ScriptData) (past : List Entry) → IsValid s → IsStepRun s past → HasFinished (reverse past)
    → (client_in s past).finished ≡ true
finished_by s past valid run finished =
    let some = any_counted (of_act is_finish) (λ (x : Place). finishes x.act) (places_of (reverse past)) (λ x. finish_marks x.act) finished in
    is_true_of (client_in s past).finished (omega (arith, some, finishes_of past, (finishing_run s past valid run).once))

pub at_end : (s : ScriptData) (past : List Entry) → IsValid s → IsStepRun s past → HasFinished (reverse past) → IsAtEnd s past
at_end s past valid run finished = over_run s past valid run (finished_by s past valid run finished)

pub whole_at_end : (s : ScriptData) (past : List Entry) (t : ℕ) → IsValid s → IsStepRun s past → HasFinished (reverse past)
    → t < length s.trees → IsWhole s (reverse past) t
whole_at_end s past t valid run finished lt =
    answered_whole s past t valid run lt (answered_yet s past t valid run ((at_end s past valid run finished).heard t lt))
