-- The summary of a run: what its script has, by the seed that made it, and what its items are worth in all.
use Rattle.std.specs.Prelude.{ℕ, ◌+◌, ℤ, pos, ◌+ℤ◌, List, [], ◌∷◌, ◌++◌, length, codes}
use Rattle.std.specs.Fmt.{signed_decimal}
use Rattle.tv_base.specs.Sums.{one_if, tally}
use Rattle.commute_ops.specs.declared.kinds.Kind.{Kind}
use Rattle.commute_ops.specs.declared.kinds.Kind.TheVariants.{Sum as SumKind, Top as TopKind}
use Rattle.commute_ops.specs.declared.value.Value.{Value}
use Rattle.commute_ops.specs.declared.value.Value.TheVariants.{Sum, Top, Bag}
use Rattle.letter_types.specs.declared.entries.Entry.{Entry}
use Rattle.tx_trees.specs.Adding.{advances_in, all_subs}
use Rattle.tx_trees.specs.ScriptData.{ScriptData, is_read, is_update}
use Rattle.tx_trees.specs.declared.parts.ItemRow.{ItemRow}
use Rattle.tx_trees.specs.declared.parts.Tree.{Tree}
use Rattle.board_rules.specs.Worth.{worth}
use Rattle.history_text.specs.Values.{count_text}

-- how many transactions are update transactions
abbrev pub update_trees : List Tree → ℕ
update_trees ts = tally (λ t. one_if (is_update t.kind)) ts

-- how many transactions are read transactions
abbrev pub read_trees : List Tree → ℕ
read_trees ts = tally (λ t. one_if (is_read t.kind)) ts

-- the number of a sum or a top; a bag has none
abbrev pub number_of : Value → ℤ
number_of (Sum n) = n.0
number_of (Top n) = n.0
number_of (Bag ns) = pos 0

-- what an item of the second kind adds to what items of the first are worth
abbrev pub part_of : Kind → Kind → Value → ℤ
part_of SumKind SumKind w = number_of w
part_of TopKind TopKind w = number_of w
part_of _ _ w = pos 0

-- what the items of a kind are worth at version v, added up, if the list begins with item x
abbrev pub kind_worth : ScriptData → List Entry → Kind → ℕ → ℕ → List ItemRow → ℤ
kind_worth s h kind v x [] = pos 0
kind_worth s h kind v x (row ∷ rows) = part_of kind row.kind (worth s h x v) +ℤ kind_worth s h kind v (x + 1) rows

-- how many transactions there are, how many of them update and read transactions, and how many subtransactions, roots
-- among these
abbrev pub trees_counts : List Tree → List ℕ
trees_counts ts =
    count_text (codes " trees ") (length ts) ++ (count_text (codes " updates ") (update_trees ts)
    ++ (count_text (codes " reads ") (read_trees ts) ++ count_text (codes " subs ") (all_subs ts)))

-- what a script has that was made by the seed
abbrev pub counts_line : ScriptData → ℕ → List ℕ
counts_line s seed =
    count_text (codes "soak seed ") seed
    ++ (trees_counts s.trees ++ (count_text (codes " advances ") (advances_in s.rows) ++ codes "\n"))

-- the worth of all sums, and of all tops
abbrev pub totals_line : ℤ → ℤ → List ℕ
totals_line sum top =
    codes "total sum " ++ (signed_decimal sum ++ (codes " top " ++ (signed_decimal top ++ codes "\n")))

-- the line of counts, and that of what all items are worth at the version that reads are shown
abbrev pub summary_of : ScriptData → List Entry → ℕ → List ℕ
summary_of s h seed =
    counts_line s seed
    ++ totals_line (kind_worth s h SumKind (advances_in s.rows) 0 s.items) (kind_worth s h TopKind (advances_in s.rows) 0 s.items)
