use Rattle.std.proofs.Common.{List, refl}
use Rattle.letter_types.specs.declared.entries.Entry.{Entry}
use Rattle.tx_trees.specs.Adding.{upgraded}
use Rattle.tx_trees.specs.ScriptData.{ScriptData}
use Rattle.world_model.specs.Runs.{IsWorldRun}
use Rattle.threev_top.proofs.upgraded.upgraded_scripts_have_the_same_runs.Goals as goal

-- no table looks at the form
up : (s : ScriptData) (h : List Entry) → IsWorldRun s h → IsWorldRun (upgraded s) h
up s h run = record { postal = run.postal; actors = run.actors }

down : (s : ScriptData) (h : List Entry) → IsWorldRun (upgraded s) h → IsWorldRun s h
down s h run = record { postal = run.postal; actors = run.actors }

pub returns : goal.returns
returns c s h = ((up s h, down s h), refl)
