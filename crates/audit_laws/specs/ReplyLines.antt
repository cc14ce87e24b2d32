-- The line that a report prints of a transaction, and the one that the transaction's reply says.
use Rattle.std.specs.Prelude.{ℕ, ◌≡◌, List, Some, slice_get}
use Rattle.letter_types.specs.declared.bodies.Body.{Body}
use Rattle.letter_types.specs.declared.bodies.Body.TheVariants.{Reply}
use Rattle.letter_types.specs.declared.entries.Entry.{Entry}
use Rattle.letter_types.specs.declared.entries.Outgoing.{Outgoing}
use Rattle.tx_trees.specs.ScriptData.{ScriptData}
use Rattle.tx_trees.specs.declared.parts.Tree.{Tree}
use Rattle.world_model.specs.Counts.{Each}
use Rattle.board_rules.specs.Histories.{places_of, version_of}
use Rattle.board_rules.specs.Outcomes.{acts_in}
use Rattle.report_text.specs.Outcomes.{outcome_of}
use Rattle.report_text.specs.Replies.{line_by}
use Rattle.report_text.specs.Report.{gets_text, tree_line}

-- the line of transaction t, by the report of a history
abbrev pub line_in : ScriptData → List Entry → ℕ → Tree → List ℕ
line_in s h t tree =
    tree_line tree tree.kind (version_of h t) (λ v. gets_text s h v tree.subs) (outcome_of s (acts_in (places_of h)) t tree.subs)

-- they are the same
abbrev pub IsItsLine : ScriptData → List Entry → Body → Type 0
IsItsLine s h (Reply t v answer) = (tree : Tree) → slice_get s.trees t.0 ≡ Some tree → line_in s h t.0 tree ≡ line_by s tree tree.kind v answer
IsItsLine s h _ = Unit {0}

-- of each transaction that is answered
abbrev pub LinesSayReplies : ScriptData → List Entry → Type 0
LinesSayReplies s h = Each (λ (e : Entry). Each (λ (o : Outgoing). IsItsLine s h o.body) e.sent) h
