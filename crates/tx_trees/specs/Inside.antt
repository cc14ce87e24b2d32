-- A script's fields, as what it holds, and the numbers that are kept beside it.
use Rattle.std.specs.Prelude.{ℕ, ◌≡◌, ◌<◌, length, get_or}
use Rattle.script_parts.specs.ScriptData.{ScriptData}
use Rattle.script_parts.specs.Valid.{IsValid, item_names, load, tree_names}
use Rattle.script_parts.specs.Counts.{advances_in, all_ops, all_subs, loses_in, strict_trees, trees_puts, update_subs}
use Rattle.tx_trees.specs.declared.script.Script.TheInside.{Inside}

abbrev pub script_data : Inside → ScriptData
script_data s = record {
  form = s.form;
  nodes = s.nodes;
  items = s.items.items;
  trees = s.trees.items;
  rows = s.rows.items;
  picks = s.picks.items;
  begun = s.begun;
}

-- valid, with the name and the totals of each item beside the items, the name of each transaction beside the
-- transactions, and how many there are of what is limited
pub record IsKept (s : Inside) : Type 0 where
  pub valid : IsValid (script_data s)
  pub item_names : s.item_names ≡ item_names s.items.items
  pub tree_names : s.tree_names ≡ tree_names s.trees.items
  pub len : length s.totals.items ≡ length s.items.items
  pub totals : (k : ℕ) → k < length s.items.items → get_or s.totals.items k 0 ≡ load k (script_data s)
  pub puts_len : length s.puts.items ≡ length s.items.items
  pub puts : (k : ℕ) → k < length s.items.items → get_or s.puts.items k 0 ≡ trees_puts k s.trees.items
  pub subs : s.subs ≡ all_subs s.trees.items
  pub ops : s.ops ≡ all_ops s.trees.items
  pub advances : s.advances ≡ advances_in s.rows.items
  pub loses : s.loses ≡ loses_in s.rows.items
  pub strict : s.strict ≡ strict_trees s.trees.items
  pub update_subs : s.update_subs ≡ update_subs s.trees.items
