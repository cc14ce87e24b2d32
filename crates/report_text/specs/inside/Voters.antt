-- The text of a strict transaction, by its votes and what was decided of it.
use Rattle.std.specs.Prelude.{ℕ, Bool, List, [], Option}
use Rattle.std.specs.Option.{option_map_or}
use Rattle.tv_base.specs.declared.numbers.Version.{Version}
use Rattle.letter_types.specs.declared.votes.Vote.{Vote}
use Rattle.tx_trees.specs.ScriptData.{ScriptData}
use Rattle.board_rules.specs.Outcomes.{got_from, got_of}
use Rattle.history_text.specs.TreeNames.{got_text}
use Rattle.report_text.specs.Outcomes.{decided_text, outcome_of, strict_line}
use Rattle.report_text.specs.Report.{tree_line}
use Rattle.report_text.specs.declared.outcomes.Voters.{Voters}
use Rattle.report_text.specs.declared.trees.TreeTold.{TreeTold}

-- the values of a vote, if it is there; and of all positive votes
abbrev pub vote_text : ScriptData → Option Vote → List ℕ
vote_text s vote = got_text s (option_map_or got_of vote [])

abbrev pub votes_text : ScriptData → Voters → List ℕ
votes_text s v = got_text s (got_from v.ballot.now v.number.0 0 v.tree.now.subs)

-- that the transaction commits or aborts; and how it came out, if it did
abbrev pub decision_text : ScriptData → Voters → Bool → List ℕ
decision_text s v commit = decided_text s v.ballot.now v.number.0 v.tree.now.subs commit

abbrev pub outcome_text : ScriptData → Voters → List ℕ
outcome_text s v = outcome_of s v.ballot.now v.number.0 v.tree.now.subs

-- its line; and the line of any transaction, by the text of what it shows, and by what is told of it
abbrev pub voters_line : ScriptData → Voters → Version → List ℕ
voters_line s v version = strict_line v.tree.now.name version.0 (outcome_text s v)

abbrev pub line_shown : ScriptData → Voters → Option Version → List ℕ → List ℕ
line_shown s v born values = tree_line v.tree.now v.tree.now.kind born (λ _. values) (outcome_text s v)

abbrev pub line_of_told : ScriptData → Voters → TreeTold → List ℕ
line_of_told s v told = line_shown s v told.born told.values.now
