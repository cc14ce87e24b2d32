-- How strict transactions came out: the text of what was decided of them, by their votes.
use Rattle.std.specs.Prelude.{ℕ, Bool, true, false, List, [], ◌++◌, codes, Option}
use Rattle.std.specs.Option.{option_map_or}
use Rattle.letter_types.specs.declared.acts.Act.{Act}
use Rattle.letter_types.specs.declared.votes.Cause.{Cause}
use Rattle.tx_trees.specs.ScriptData.{ScriptData}
use Rattle.tx_trees.specs.declared.parts.Sub.{Sub}
use Rattle.board_rules.specs.Outcomes.{cause_from, decision_in, got_from}
use Rattle.history_text.specs.TreeNames.{cause_text, got_text}
use Rattle.report_text.specs.Parts.{version_text}

-- a cause, if there is one
abbrev pub why_text : ScriptData → Option Cause → List ℕ
why_text s cause = option_map_or (λ c. codes " " ++ cause_text s c) cause []

-- that a transaction commits, with the values of all its gets, or aborts, with the cause
abbrev pub decided_text : ScriptData → List Act → ℕ → List Sub → Bool → List ℕ
decided_text s acts t subs true = codes " committed" ++ got_text s (got_from acts t 0 subs)
decided_text s acts t subs false = codes " aborted" ++ why_text s (cause_from acts t 0 subs)

-- how transaction t came out, by what these acts decide; if they decide nothing, there is no text
abbrev pub outcome_of : ScriptData → List Act → ℕ → List Sub → List ℕ
outcome_of s acts t subs = option_map_or (decided_text s acts t subs) (decision_in t acts) []

-- the line of a strict transaction of version v with the text of how it came out
abbrev pub strict_line : List ℕ → ℕ → List ℕ → List ℕ
strict_line name v outcome = version_text (codes "strict ") name v ++ (outcome ++ codes "\n")
