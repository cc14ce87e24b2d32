-- The text of a script: its rows, each as a line.
use Rattle.std.specs.Prelude.{ℕ, List, [], ◌∷◌, ◌++◌, map, Option, Some, None, slice_get, codes, decimal}
use Rattle.std.specs.Fmt.{signed_decimal}
use Rattle.commute_ops.specs.declared.kinds.Op.TheVariants as applied
use Rattle.tx_trees.specs.ScriptData.{ScriptData}
use Rattle.tx_trees.specs.Rebuilt.{name_at, written_subs}
use Rattle.tx_trees.specs.declared.parts.Deed.{Deed}
use Rattle.tx_trees.specs.declared.parts.Deed.TheVariants as deeds
use Rattle.tx_trees.specs.declared.parts.Form.{Form}
use Rattle.tx_trees.specs.declared.parts.Form.TheVariants as forms
use Rattle.tx_trees.specs.declared.parts.ItemRow.{ItemRow}
use Rattle.tx_trees.specs.declared.parts.ScriptRow.{ScriptRow}
use Rattle.tx_trees.specs.declared.parts.ScriptRow.TheVariants as rows
use Rattle.tx_trees.specs.declared.parts.Sub.{Sub}
use Rattle.tx_trees.specs.declared.parts.SubOp.{SubOp}
use Rattle.tx_trees.specs.declared.parts.Tree.{Tree}
use Rattle.tx_trees.specs.declared.parts.TreeKind.{TreeKind}
use Rattle.tx_trees.specs.declared.parts.Written.{Written}
use Rattle.script_reader.specs.Words.{kind_word, tree_word}

-- the fields after the first of a record, each after a comma, and the line's end
abbrev pub more_fields : List (List ℕ) → List ℕ
more_fields [] = 10 ∷ []
more_fields (f ∷ fs) = 44 ∷ (f ++ more_fields fs)

-- a record as a line
abbrev pub line : List (List ℕ) → List ℕ
line [] = 10 ∷ []
line (f ∷ fs) = f ++ more_fields fs

-- records as lines
abbrev pub lines : List (List (List ℕ)) → List ℕ
lines [] = []
lines (r ∷ rs) = line r ++ lines rs

-- the row that names the second form
abbrev pub form_rows : Form → List (List (List ℕ))
form_rows forms.One = []
form_rows forms.Two = (codes "threev" ∷ codes "2" ∷ []) ∷ []

-- the `nodes` row
abbrev pub nodes_fields : ℕ → List (List ℕ)
nodes_fields n = codes "nodes" ∷ decimal n ∷ []

-- an item row
abbrev pub item_fields : ItemRow → List (List ℕ)
item_fields r = codes "item" ∷ r.name ∷ decimal r.node.0 ∷ kind_word r.kind ∷ signed_decimal r.initial ∷ []

-- a tree row
abbrev pub tree_fields : TreeKind → List ℕ → ℕ → List (List ℕ)
tree_fields kind name node = tree_word kind ∷ name ∷ decimal node ∷ []

-- a `sub` row
abbrev pub sub_fields : Sub → List (List ℕ)
sub_fields x = codes "sub" ∷ decimal x.parent.0 ∷ decimal x.node.0 ∷ []

-- an operation on the item of this name
abbrev pub deed_fields : List ℕ → Deed → List (List ℕ)
deed_fields item (deeds.Apply (applied.Add a)) = codes "add" ∷ item ∷ signed_decimal a ∷ []
deed_fields item (deeds.Apply (applied.Top a)) = codes "top" ∷ item ∷ signed_decimal a ∷ []
deed_fields item (deeds.Apply (applied.Put a)) = codes "put" ∷ item ∷ signed_decimal a ∷ []
deed_fields item (deeds.Set a) = codes "set" ∷ item ∷ signed_decimal a ∷ []
deed_fields item (deeds.Draw a) = codes "draw" ∷ item ∷ signed_decimal a ∷ []
deed_fields item deeds.Get = codes "get" ∷ item ∷ []

-- an operation row
abbrev pub op_fields : List ItemRow → SubOp → List (List ℕ)
op_fields items o = deed_fields (name_at o.item.0 items) o.deed

-- a `pick` row
abbrev pub pick_fields : ℕ → List (List ℕ)
pick_fields k = codes "pick" ∷ decimal k ∷ []

-- the row of a subtransaction that fails
abbrev pub fail_fields : ℕ → List (List ℕ)
fail_fields k = codes "fail" ∷ decimal k ∷ []

-- the same, if one fails
abbrev pub fail_rows : Option Written → List (List (List ℕ))
fail_rows None = []
fail_rows (Some w) = fail_fields w.failed.0 ∷ []

-- the operations of a subtransaction
abbrev pub ops_rows : List ItemRow → List SubOp → List (List (List ℕ))
ops_rows items ops = map (op_fields items) ops

-- each subtransaction after the root with its operations, by number
abbrev pub subs_rows : List ItemRow → List Sub → List (List (List ℕ))
subs_rows items [] = []
subs_rows items (x ∷ xs) = sub_fields x ∷ (ops_rows items x.ops ++ subs_rows items xs)

-- a transaction's row with its root's operations, and then the others
abbrev pub tree_rows : List ItemRow → TreeKind → List ℕ → List Sub → List (List (List ℕ))
tree_rows items kind name [] = []
tree_rows items kind name (x ∷ xs) = tree_fields kind name x.node.0 ∷ (ops_rows items x.ops ++ subs_rows items xs)

-- the rows of a transaction, if it is there, as it was written
abbrev pub rows_of_tree : List ItemRow → Option Tree → List (List (List ℕ))
rows_of_tree items None = []
rows_of_tree items (Some t) = tree_rows items t.kind t.name (written_subs t) ++ fail_rows t.written

-- a row, a tree row with its whole transaction
abbrev pub rows_of_row : List ItemRow → List Tree → ScriptRow → List (List (List ℕ))
rows_of_row items ts (rows.Tree n) = rows_of_tree items (slice_get ts n.0)
rows_of_row items ts rows.Advance = (codes "advance" ∷ []) ∷ []
rows_of_row items ts rows.Settle = (codes "settle" ∷ []) ∷ []
rows_of_row items ts rows.Lose = (codes "lose" ∷ []) ∷ []

-- all rows, in order
abbrev pub rows_of_rows : List ItemRow → List Tree → List ScriptRow → List (List (List ℕ))
rows_of_rows items ts [] = []
rows_of_rows items ts (r ∷ rs) = rows_of_row items ts r ++ rows_of_rows items ts rs

-- the number of nodes, all items, all rows with their transactions, and then all picks
abbrev pub rows_behind : ScriptData → List (List (List ℕ))
rows_behind s =
    nodes_fields s.nodes ∷ (map item_fields s.items ++ (rows_of_rows s.items s.trees s.rows ++ map pick_fields s.picks))

-- the same, after the row of the second form if it is of that
abbrev pub rows_of : ScriptData → List (List (List ℕ))
rows_of s = form_rows s.form ++ rows_behind s

-- the text of a script
abbrev pub written : ScriptData → List ℕ
written s = lines (rows_of s)
