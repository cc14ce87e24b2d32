-- The lines of transactions by their replies, and those of the report.
use Rattle.std.specs.Prelude.{ℕ, ◌≡◌, List, [], ◌∷◌, ◌++◌, drop, reverse, Some}
use Rattle.tv_base.specs.declared.numbers.Version.{Version}
use Rattle.letter_types.specs.declared.acts.Act.TheVariants.{Finished}
use Rattle.letter_types.specs.declared.bodies.Answer.{Answer}
use Rattle.letter_types.specs.declared.entries.Entry.{Entry}
use Rattle.script_parts.specs.ScriptData.{ScriptData}
use Rattle.script_parts.specs.Valid.{IsValid}
use Rattle.report_text.specs.Replies.{reply_in, reply_lines}
use Rattle.report_text.specs.Report.{trees_text}
use Rattle.world_model.specs.Runs.{IsStepRun}

-- if the client would finish with the next entry, the lines of the script's transactions from transaction k on, by their
-- replies, of which that entry may take the last, are those of the report
abbrev pub RepliesSayLines : Type 0
RepliesSayLines =
    (s : ScriptData) (past : List Entry) (e : Entry) (k : ℕ) → IsValid s → IsStepRun s (e ∷ past) → e.acts ≡ Finished ∷ []
    → reply_lines s (reverse past) e.took.body k (drop k s.trees) ≡ trees_text s (reverse past) k (drop k s.trees)

-- the reply of transaction k that a history took is that of each history that goes on
abbrev pub RepliesStay : Type 0
RepliesStay =
    (h later : List Entry) (k : ℕ) (r : Version × Answer) → reply_in h k ≡ Some r → reply_in (h ++ later) k ≡ Some r
