-- Every run by the tables whose client has finished has the headline: the laws put together.
use Rattle.std.proofs.Common.{List, reverse, subst, sym}
use Rattle.std.proofs.lemmas.List.{reverse-reverse}
use Rattle.board_rules.specs.Right.{HasFinished}
use Rattle.headline.proofs.Fitting.{fits_run}
use Rattle.headline.specs.Headline.{HasHeadline}
use Rattle.headline.proofs.Few.{held_three}
use Rattle.headline.proofs.Finished.{whole_at_end}
use Rattle.headline.proofs.Settled.{settled}
use Rattle.letter_types.specs.declared.entries.Entry.{Entry}
use Rattle.headline.proofs.BoardRuns.{board_run}
use Rattle.run_laws.proofs.keeping.AtOnce.{all_at_once}
use Rattle.run_laws.proofs.each_tree.Taken.{taken_run}
use Rattle.run_laws.proofs.worth.CommittedGets.{gets_are_the_fold}
use Rattle.run_laws.proofs.replies_told.Replies.{replies_tell}
use Rattle.run_laws.proofs.worth.Right.{right_run}
use Rattle.run_laws.proofs.worth.ShownStays.{shown_stays}
use Rattle.run_laws.proofs.worth.WritersFirst.{writers_first}
use Rattle.headline.proofs.Undone.{nothing_undone}
use Rattle.tx_trees.specs.ScriptData.{ScriptData}
use Rattle.tx_trees.specs.Valid.{IsValid}
use Rattle.world_model.proofs.Back.{world_run}
use Rattle.world_model.proofs.Posts.{steps}
use Rattle.world_model.specs.Runs.{IsStepRun, IsWorldRun}

-- of a run by steps
pub headline_past : (s : ScriptData) (past : List Entry) → IsValid s → IsStepRun s past → HasFinished (reverse past)
    → HasHeadline s (reverse past)
headline_past s past valid run finished = record {
  run = world_run s past run;
  apt = taken_run s past valid run;
  finished = finished;
  whole = λ t lt. whole_at_end s past t valid run finished lt;
  settled = settled s past valid run finished;
  reads = shown_stays s past valid run;
  replies = replies_tell s past valid run;
  right = right_run s past valid run;
  writers_first = writers_first s past valid run;
  board = board_run s past valid run;
  fits = fits_run s past valid run;
  gets = gets_are_the_fold s past valid run;
  three = held_three s past valid run;
  at_once = all_at_once s past valid run;
  undone = nothing_undone s past valid run;
}

-- of a run by the tables
pub headline : (s : ScriptData) (h : List Entry) → IsValid s → IsWorldRun s h → HasFinished h → HasHeadline s h
headline s h valid run finished =
    subst (HasHeadline s) (reverse-reverse h)
    (headline_past s (reverse h) valid (steps s h run) (subst HasFinished (sym (reverse-reverse h)) finished))
