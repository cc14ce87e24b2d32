-- The script that a seed makes: 4 nodes, 32 items, and that many transactions, each from draws of its own.
use Rattle.std.specs.Prelude.{if◌then◌else◌, ℕ, zero, suc, ◌+◌, ◌*◌, ◌/◌, ◌%◌, ◌==◌, ℤ, pos, List, [], ◌∷◌, ◌++◌, codes, decimal, Bool, false, None}
use Rattle.commute_ops.specs.declared.kinds.Kind.TheVariants as kinds
use Rattle.commute_ops.specs.declared.kinds.Op.TheVariants as ops
use Rattle.tx_trees.specs.ScriptData.{ScriptData}
use Rattle.tx_trees.specs.declared.parts.Deed.{Deed}
use Rattle.tx_trees.specs.declared.parts.Deed.TheVariants as deeds
use Rattle.tx_trees.specs.declared.parts.Form.TheVariants as forms
use Rattle.tx_trees.specs.declared.parts.ItemRow.{ItemRow}
use Rattle.tx_trees.specs.declared.parts.ScriptRow.{ScriptRow}
use Rattle.tx_trees.specs.declared.parts.ScriptRow.TheVariants as rows
use Rattle.tx_trees.specs.declared.parts.Sub.{Sub}
use Rattle.tx_trees.specs.declared.parts.Tree.{Tree}
use Rattle.tx_trees.specs.declared.parts.TreeKind.{TreeKind}
use Rattle.tx_trees.specs.declared.parts.TreeKind.TheVariants as trees
use Rattle.script_gen.specs.Draws.{after_draws}
use Rattle.tv_base.specs.Draws.{next_draw, upper_bits}

-- the names of item k and of transaction j
abbrev pub generated_item_name : ℕ → List ℕ
generated_item_name k = codes "i" ++ decimal k

abbrev pub tree_name : ℕ → List ℕ
tree_name j = codes "t" ++ decimal j

-- every eighth item is a top
abbrev pub is_top : ℕ → Bool
is_top k = k % 8 == 7

-- item k: a top that begins with 0, or a sum that begins with 1000
abbrev pub generated_item_row : ℕ → ItemRow
generated_item_row k = record {
  name = generated_item_name k;
  node = record { 0 = k % 4 };
  kind = if is_top k then kinds.Top else kinds.Sum;
  initial = if is_top k then pos 0 else pos 1000;
}

-- the first n items
abbrev pub items_up_to : ℕ → List ItemRow
items_up_to zero = []
items_up_to (suc k) = items_up_to k ++ generated_item_row k ∷ []

-- by a transaction's first draw: its kind, its home, and how many subtransactions it has beside the root
abbrev pub kind_by : ℕ → TreeKind
kind_by d = if d % 4 == 0 then trees.Read else trees.Update

abbrev pub home_by : ℕ → ℕ
home_by d = d / 4 % 4

abbrev pub more_by : ℕ → ℕ
more_by d = d / 16 % 4

-- by the draw of subtransaction k: its parent, its node, and the item and the amount of its operation
abbrev pub parent_by : ℕ → ℕ → ℕ
parent_by zero e = 0
parent_by (suc k) e = e % suc k

abbrev pub node_by : ℕ → ℕ → ℕ → ℕ
node_by home zero e = home
node_by home (suc k) e = e / 64 % 4

abbrev pub item_by : ℕ → ℕ → ℕ
item_by node e = node + 4 * (e / 256 % 8)

abbrev pub amount_by : ℕ → ℤ
amount_by e = pos (e / 2048 % 1000)

-- a read transaction gets the item, another adds to it or raises it
abbrev pub deed_by : TreeKind → ℕ → ℤ → Deed
deed_by trees.Read x n = deeds.Get
deed_by _ x n = if is_top x then deeds.Apply (ops.Top n) else deeds.Apply (ops.Add n)

-- subtransaction k of a transaction of this kind and home, by its draw
abbrev pub generated_sub : TreeKind → ℕ → ℕ → ℕ → Sub
generated_sub kind home k e = record {
  parent = record { 0 = parent_by k e };
  node = record { 0 = node_by home k e };
  ops = record {
    item = record { 0 = item_by (node_by home k e) e };
    deed = deed_by kind (item_by (node_by home k e) e) (amount_by e);
  } ∷ [];
}

-- the first n subtransactions, each by one draw after x
abbrev pub subs_up_to : TreeKind → ℕ → ℕ → ℕ → List Sub
subs_up_to kind home x zero = []
subs_up_to kind home x (suc k) =
    subs_up_to kind home x k ++ generated_sub kind home k (upper_bits (after_draws (suc k) x)) ∷ []

-- a transaction's own draw, if its draws begin after x
abbrev pub own_draw : ℕ → ℕ
own_draw x = upper_bits (next_draw x)

-- transaction j with its first n subtransactions, by the draws after x, of which the first is the transaction's own
abbrev pub tree_with : ℕ → ℕ → ℕ → Tree
tree_with j x n = record {
  name = tree_name j;
  kind = kind_by (own_draw x);
  subs = subs_up_to (kind_by (own_draw x)) (home_by (own_draw x)) (next_draw x) n;
  written = None;
}

-- how many subtransactions the transaction has whose draws begin after x
abbrev pub size_after : ℕ → ℕ
size_after x = more_by (own_draw x) + 1

abbrev pub generated_tree : ℕ → ℕ → Tree
generated_tree j x = tree_with j x (size_after x)

-- the number after the draws of the transaction whose draws begin after x
abbrev pub after_tree_draws : ℕ → ℕ
after_tree_draws x = after_draws (size_after x) (next_draw x)

-- the number after the draws of the first j transactions
abbrev pub after_trees : ℕ → ℕ → ℕ
after_trees seed zero = seed
after_trees seed (suc j) = after_tree_draws (after_trees seed j)

-- the first n transactions
abbrev pub trees_up_to : ℕ → ℕ → List Tree
trees_up_to seed zero = []
trees_up_to seed (suc j) = trees_up_to seed j ++ generated_tree j (after_trees seed j) ∷ []

-- after every 250th transaction an advancement is asked for
abbrev pub advances_behind : ℕ → List ScriptRow
advances_behind j = if (j + 1) % 250 == 0 then rows.Advance ∷ [] else []

-- the rows of the first n transactions
abbrev pub rows_up_to : ℕ → List ScriptRow
rows_up_to zero = []
rows_up_to (suc j) = rows_up_to j ++ (rows.Tree (record { 0 = j }) ∷ advances_behind j)

-- the whole script: after the transactions all of them are waited for, one more advancement is asked for and waited for
abbrev pub generated : ℕ → ℕ → ScriptData
generated seed n = record {
  form = forms.One;
  nodes = 4;
  items = items_up_to 32;
  trees = trees_up_to seed n;
  rows = rows_up_to n ++ (rows.Settle ∷ rows.Advance ∷ rows.Settle ∷ []);
  picks = [];
  begun = false;
}
