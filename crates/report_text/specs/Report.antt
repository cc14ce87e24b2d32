-- The text of the report: a function of the script and the history.
use Rattle.std.specs.Prelude.{if◌then◌else◌, ℕ, zero, suc, ◌+◌, Bool, List, [], ◌∷◌, ◌++◌, codes, decimal, Option, Some, None}
use Rattle.tv_base.specs.declared.numbers.Version.{Version}
use Rattle.commute_ops.specs.declared.value.Value.{Value}
use Rattle.letter_types.specs.declared.entries.Entry.{Entry}
use Rattle.tx_trees.specs.Adding.{advances_in}
use Rattle.tx_trees.specs.Counts.{ops_in}
use Rattle.tx_trees.specs.ScriptData.{ScriptData}
use Rattle.tx_trees.specs.declared.parts.ItemRow.{ItemRow}
use Rattle.tx_trees.specs.declared.parts.Sub.{Sub}
use Rattle.tx_trees.specs.declared.parts.Tree.{Tree}
use Rattle.tx_trees.specs.declared.parts.TreeKind.{TreeKind}
use Rattle.tx_trees.specs.declared.parts.TreeKind.TheVariants.{Update, Read, Strict}
use Rattle.tx_trees.specs.declared.parts.Written.{Written}
use Rattle.board_rules.specs.Outcomes.{acts_in}
use Rattle.board_rules.specs.Histories.{places_of, version_of}
use Rattle.board_rules.specs.Right.{shown}
use Rattle.board_rules.specs.Worth.{worth, is_written}
use Rattle.report_text.specs.Outcomes.{outcome_of, strict_line}
use Rattle.history_text.specs.TreeNames.{got_text}
use Rattle.history_text.specs.Values.{value_text}
use Rattle.report_text.specs.Parts.{version_text}

-- the mark of a transaction that is compensated
abbrev pub undone_mark : Option Written → List ℕ
undone_mark None = []
undone_mark (Some w) = codes " undone"

-- the line of an update transaction of version v, which is marked if the transaction is compensated
abbrev pub update_line : List ℕ → ℕ → Option Written → List ℕ
update_line name v written = version_text (codes "tree ") name v ++ (undone_mark written ++ codes "\n")

-- the line of a read transaction of version v with the text of its values
abbrev pub read_line : List ℕ → ℕ → List ℕ → List ℕ
read_line name v values = version_text (codes "read ") name v ++ (values ++ codes "\n")

-- what a read transaction's gets are worth at version v in the whole history; its operations are gets alone
abbrev pub gets_text : ScriptData → List Entry → ℕ → List Sub → List ℕ
gets_text s h v ks = got_text s (shown s h v (ops_in ks))

-- the line of a transaction, which has one if it is born, by the text of its values at a version and of how it came out
abbrev pub tree_line : Tree → TreeKind → Option Version → (ℕ → List ℕ) → List ℕ → List ℕ
tree_line tree Update (Some v) values outcome = update_line tree.name v.0 tree.written
tree_line tree Read (Some v) values outcome = read_line tree.name v.0 (values v.0)
tree_line tree Strict (Some v) values outcome = strict_line tree.name v.0 outcome
tree_line tree _ _ values outcome = []

-- the same, if the list begins with transaction t
abbrev pub trees_text : ScriptData → List Entry → ℕ → List Tree → List ℕ
trees_text s h t [] = []
trees_text s h t (x ∷ xs) =
    tree_line x x.kind (version_of h t) (λ v. gets_text s h v x.subs) (outcome_of s (acts_in (places_of h)) t x.subs)
    ++ trees_text s h (t + 1) xs

abbrev pub node_line : ℕ → ℕ → List ℕ
node_line a p =
    codes "node " ++ (decimal p
    ++ (codes " update " ++ (decimal (a + 1) ++ (codes " read " ++ (decimal a ++ codes "\n")))))

-- the lines of nodes 0 to n - 1
abbrev pub nodes_text : ℕ → ℕ → List ℕ
nodes_text a zero = []
nodes_text a (suc n) = nodes_text a n ++ node_line a n

-- a version and the value there
abbrev pub balance : ℕ → Value → List ℕ
balance v w = codes " " ++ (decimal v ++ (codes ":" ++ value_text w))

-- a value at version a, and one at the next if that is written
abbrev pub balances : ℕ → Value → Value → Bool → List ℕ
balances a w next written = balance a w ++ (if written then balance (a + 1) next else [])

-- the line of an item of these values
abbrev pub item_line : ℕ → ItemRow → Value → Value → Bool → List ℕ
item_line a row w next written = codes "item " ++ (row.name ++ (balances a w next written ++ codes "\n"))

-- what each item is worth at the versions that the nodes hold at the end, if the list begins with item x
abbrev pub items_text : ScriptData → List Entry → ℕ → ℕ → List ItemRow → List ℕ
items_text s h a x [] = []
items_text s h a x (row ∷ rows) =
    item_line a row (worth s h x a) (worth s h x (a + 1)) (is_written s h x (a + 1)) ++ items_text s h a (x + 1) rows

-- transactions in the script's order, then nodes by number, then items in the script's order
abbrev pub report_of : ScriptData → List Entry → List ℕ
report_of s h =
    trees_text s h 0 s.trees
    ++ (nodes_text (advances_in s.rows) s.nodes ++ items_text s h (advances_in s.rows) 0 s.items)
