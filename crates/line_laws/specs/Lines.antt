-- The line of a transaction in the report of a run that goes on, of a script that goes on.
use Rattle.std.specs.Prelude.{ℕ, ◌≡◌, List, ◌++◌, reverse, Some, slice_get}
use Rattle.letter_types.specs.declared.entries.Entry.{Entry}
use Rattle.script_parts.specs.ScriptData.{ScriptData}
use Rattle.script_parts.specs.Valid.{IsValid}
use Rattle.script_parts.specs.declared.parts.Tree.{Tree}
use Rattle.board_rules.specs.Histories.{IsWhole}
use Rattle.world_model.specs.Runs.{IsStepRun}
use Rattle.audit_laws.specs.ReplyLines.{line_in}
use Rattle.growth_laws.specs.Growth.{Extends}

-- if transaction k is complete, its line stays as it is, however the run goes on, and whatever transactions come
abbrev pub LinesStay : Type 0
LinesStay =
    (s t : ScriptData) (past later : List Entry) (k : ℕ) (tree : Tree) → IsValid s → IsValid t → Extends s t
    → IsStepRun s past → IsStepRun t (later ++ past) → slice_get s.trees k ≡ Some tree → IsWhole s (reverse past) k
    → line_in t (reverse (later ++ past)) k tree ≡ line_in s (reverse past) k tree
