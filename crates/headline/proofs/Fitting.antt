-- Each act of a run keeps to the script.
use Rattle.std.proofs.Common.{List, [], ◌∷◌, reverse}
use Rattle.letter_types.specs.declared.entries.Entry.{Entry}
use Rattle.tx_trees.specs.ScriptData.{ScriptData}
use Rattle.tx_trees.specs.Valid.{IsValid}
use Rattle.board_rules.specs.Gates.{Fits, KeepsTo}
use Rattle.world_model.specs.Runs.{IsStepRun}
use Rattle.tree_laws.proofs.histories.Histories.{at_each_act_more}
use Rattle.headline.proofs.Keeps.{entry_keeps}

pub fits_run : (s : ScriptData) (past : List Entry) → IsValid s → IsStepRun s past → Fits s (reverse past)
fits_run s [] valid run = λ n e here. absurd (cc here)
fits_run s (e ∷ past) valid run =
    at_each_act_more (λ (before : List Entry). KeepsTo s) e past (fits_run s past valid run.1)
    (entry_keeps s past e valid run)
