-- The lines of a script's transactions as a front of each later report.
use Rattle.std.specs.Prelude.{◌≡◌, List, [], ◌∷◌, ◌++◌, drop, length, reverse}
use Rattle.letter_types.specs.declared.acts.Act.TheVariants.{Finished}
use Rattle.letter_types.specs.declared.entries.Entry.{Entry}
use Rattle.script_parts.specs.ScriptData.{ScriptData}
use Rattle.script_parts.specs.Valid.{IsValid}
use Rattle.report_text.specs.Report.{trees_text}
use Rattle.world_model.specs.Runs.{IsStepRun}
use Rattle.growth_laws.specs.Growth.{Extends}

-- if the client would finish with the next entry, the lines of the script's transactions are what the report begins
-- with of each run that goes on from there, of each script that goes on from this one
abbrev pub FrontsStay : Type 0
FrontsStay =
    (s t : ScriptData) (past later : List Entry) (e : Entry) → IsValid s → IsValid t → Extends s t
    → IsStepRun s (e ∷ past) → e.acts ≡ Finished ∷ [] → IsStepRun t (later ++ past)
    → trees_text t (reverse (later ++ past)) 0 t.trees
    ≡ trees_text s (reverse past) 0 s.trees
    ++ trees_text t (reverse (later ++ past)) (length s.trees) (drop (length s.trees) t.trees)
