-- What read transactions show of these values of all items, and the lines of transactions and items, one for each place
-- of several lists. These are the definitions that private code alone cites.
use Rattle.std.specs.Prelude.{ℕ, ◌+◌, Bool, if◌then◌else◌, List, [], ◌∷◌, ◌++◌, Option, Some, None, slice_get}
use Rattle.commute_ops.specs.declared.value.Value.{Value}
use Rattle.letter_types.specs.declared.acts.Act.{Act}
use Rattle.letter_types.specs.declared.entries.Entry.{Entry}
use Rattle.tx_trees.specs.Counts.{has_strict}
use Rattle.tx_trees.specs.ScriptData.{ScriptData}
use Rattle.tx_trees.specs.declared.parts.ItemRow.{ItemRow}
use Rattle.tx_trees.specs.declared.parts.Sub.{Sub}
use Rattle.tx_trees.specs.declared.parts.SubOp.{SubOp}
use Rattle.tx_trees.specs.declared.parts.Tree.{Tree}
use Rattle.board_model.specs.declared.standings.Standing.{Standing}
use Rattle.report_text.specs.Outcomes.{outcome_of}
use Rattle.history_text.specs.Values.{get_text}
use Rattle.report_text.specs.Report.{balances, item_line, tree_line}
use Rattle.report_text.specs.declared.items.AllWorth.{AllWorth}
use Rattle.report_text.specs.declared.items.ItemWorth.{ItemWorth}
use Rattle.report_text.specs.declared.trees.TreesTold.{TreesTold}

-- a value after the name of its item, if both are there
abbrev pub found_text : Option ItemRow → Option Value → List ℕ
found_text None w = []
found_text (Some row) (Some w) = get_text row.name w
found_text (Some row) _ = []

-- the values of the operations' items among these values of all items
abbrev pub ops_texts : List ItemRow → List Value → List SubOp → List ℕ
ops_texts rows ws [] = []
ops_texts rows ws (o ∷ os) = found_text (slice_get rows o.item.0) (slice_get ws o.item.0) ++ ops_texts rows ws os

-- the same for the operations of subtransactions
abbrev pub subs_texts : List ItemRow → List Value → List Sub → List ℕ
subs_texts rows ws [] = []
subs_texts rows ws (k ∷ ks) = ops_texts rows ws k.ops ++ subs_texts rows ws ks

-- the lines of the transactions of these standings, texts of values and ballots, if the list begins with transaction t
abbrev pub trees_lines : ScriptData → ℕ → List Tree → List Standing → List (List ℕ) → List (List Act) → List ℕ
trees_lines s t (tree ∷ ts) (st ∷ sts) (r ∷ rs) (b ∷ bs) =
    tree_line tree tree.kind st.born (λ (v : ℕ). r) (outcome_of s b t tree.subs) ++ trees_lines s (t + 1) ts sts rs bs
trees_lines s t [] sts rs bs = []
trees_lines s t _ _ _ _ = []

-- the same of what is told of these transactions, which are all
abbrev pub lines_of_told : ScriptData → List Tree → TreesTold → List ℕ
lines_of_told s ts told = trees_lines s 0 ts told.standings.now told.reads.now told.ballots.now

-- the history in which transactions may have voted: only strict ones vote
abbrev pub history_of_votes : ScriptData → List Entry → List Entry
history_of_votes s h = if has_strict s then h else []

-- the lines of the items of these values
abbrev pub rows_lines : ℕ → List ItemRow → List Value → List Value → List Bool → List ℕ
rows_lines a (row ∷ rows) (w ∷ ws) (n ∷ ns) (b ∷ bs) = item_line a row w n b ++ rows_lines a rows ws ns bs
rows_lines a _ _ _ _ = []

-- the same of what items are worth
abbrev pub lines_of_worths : ℕ → List ItemRow → AllWorth → List ℕ
lines_of_worths a rows w = rows_lines a rows w.shown.now w.later.now w.written.now

-- the line of an item that is worth this, and the values of it that are told there
abbrev pub line_of_worth : ℕ → ItemRow → ItemWorth → List ℕ
line_of_worth a row w = item_line a row w.shown.now w.later.now w.written

abbrev pub balances_of_worth : ℕ → ItemWorth → List ℕ
balances_of_worth a w = balances a w.shown.now w.later.now w.written
