-- The script while it is generated. Only the code of the generator cites it.
use Rattle.std.specs.Prelude.{◌≡◌, ◌<◌, ◌≤◌, ℕ, suc, ◌*◌, true, false, List, [], ◌∷◌, ◌++◌, length, None}
use Rattle.tx_trees.specs.Adding.{all_ops, all_subs, names_tree, with_op, with_row}
use Rattle.tx_trees.specs.Counts.{strict_trees, trees_puts}
use Rattle.tx_trees.specs.ScriptData.{ScriptData}
use Rattle.tx_trees.specs.Valid.{trees_load}
use Rattle.tx_trees.specs.declared.parts.Form.TheVariants as forms
use Rattle.tx_trees.specs.declared.parts.ScriptRow.{ScriptRow}
use Rattle.tx_trees.specs.declared.parts.ScriptRow.TheVariants as rows
use Rattle.tx_trees.specs.declared.parts.Sub.{Sub}
use Rattle.tx_trees.specs.declared.parts.Tree.{Tree}
use Rattle.tx_trees.specs.declared.parts.TreeKind.{TreeKind}
use Rattle.script_gen.specs.Draws.{after_draws}
use Rattle.tv_base.specs.Draws.{next_draw, upper_bits}
use Rattle.script_gen.specs.Generated.{amount_by, deed_by, home_by, item_by, items_up_to, kind_by, node_by, own_draw, parent_by, rows_up_to, subs_up_to, tree_name, trees_up_to}

-- the first n items
abbrev pub with_items : ℕ → ScriptData
with_items n = record {
  form = forms.One;
  nodes = 4;
  items = items_up_to n;
  trees = [];
  rows = [];
  picks = [];
  begun = false;
}

-- the script with its first j transactions
pub record HasTrees (seed j : ℕ) (s : ScriptData) : Type 0 where
  pub form : s.form ≡ forms.One
  pub nodes : s.nodes ≡ 4
  pub items : s.items ≡ items_up_to 32
  pub trees : s.trees ≡ trees_up_to seed j
  pub rows : s.rows ≡ rows_up_to j
  pub picks : s.picks ≡ []

-- the script, which has j transactions, has room for one more
pub record HasRoomForTree (j : ℕ) (s : ScriptData) : Type 0 where
  pub form : s.form ≡ forms.One
  pub nodes : s.nodes ≡ 4
  pub items : s.items ≡ items_up_to 32
  pub count : length s.trees ≡ j
  pub few : j < 20000
  pub free : names_tree (tree_name j) s.trees ≡ false
  pub subs : all_subs s.trees ≤ 4 * j
  pub ops : all_ops s.trees ≤ 4 * j
  pub strict : strict_trees s.trees ≡ 0
  pub puts : (x : ℕ) → trees_puts x s.trees ≡ 0
  pub loads : (x : ℕ) → trees_load x s.trees ≤ 3996 * j

-- subtransaction n without its operation
abbrev pub bare_sub : ℕ → ℕ → ℕ → Sub
bare_sub home n e = record { parent = record { 0 = parent_by n e }; node = record { 0 = node_by home n e }; ops = [] }

-- transaction j with its first n subtransactions, and the next without its operation
abbrev pub bare_tree : ℕ → ℕ → ℕ → Tree
bare_tree j x n = record {
  name = tree_name j;
  kind = kind_by (own_draw x);
  subs = subs_up_to (kind_by (own_draw x)) (home_by (own_draw x)) (next_draw x) n
      ++ bare_sub (home_by (own_draw x)) n (upper_bits (after_draws (suc n) (next_draw x))) ∷ [];
  written = None;
}

-- the script with one more transaction, which is transaction j and is begun
abbrev pub with_begun : ScriptData → ℕ → Tree → ScriptData
with_begun s j t = record s {
  trees = s.trees ++ t ∷ [];
  rows = s.rows ++ rows.Tree (record { 0 = j }) ∷ [];
  begun = true;
}

-- the script with the operation at this node by its draw
abbrev pub with_op_by : ScriptData → TreeKind → ℕ → ℕ → ScriptData
with_op_by s kind node e = with_op s (item_by node e) (deed_by kind (item_by node e) (amount_by e))

-- the script with a row more, or none, and with all else but for whether a transaction is begun
pub record Follows (s t : ScriptData) (more : List ScriptRow) : Type 0 where
  pub form : t.form ≡ s.form
  pub nodes : t.nodes ≡ s.nodes
  pub items : t.items ≡ s.items
  pub trees : t.trees ≡ s.trees
  pub rows : t.rows ≡ s.rows ++ more
  pub picks : t.picks ≡ s.picks

-- all transactions are waited for, and then one more advancement
abbrev pub with_last_rows : ScriptData → ScriptData
with_last_rows s = with_row (with_row (with_row s rows.Settle) rows.Advance) rows.Settle
