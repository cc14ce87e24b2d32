-- The names of items and transactions that are there are ASCII.
use Rattle.std.proofs.Common.{◌≡◌, ℕ, List}
use Rattle.std.specs.Prelude.{Some, slice_get}
use Rattle.std.specs.Str.{IsAscii}
use Rattle.tx_trees.specs.AsciiNames.{AreAsciiItems}
use Rattle.tx_trees.specs.ScriptData.{ScriptData}
use Rattle.tx_trees.specs.Valid.{IsValid}
use Rattle.tx_trees.specs.declared.parts.ItemRow.{ItemRow}
use Rattle.tx_trees.specs.declared.parts.Tree.{Tree}
use Rattle.tx_trees.proofs.AsciiNames.{items_ascii, trees_ascii}
use Rattle.tx_trees.proofs.SubsOf.{all_at}

pub item_ascii : (rows : List ItemRow) (x : ℕ) (row : ItemRow) → AreAsciiItems rows → slice_get rows x ≡ Some row → IsAscii row.name
item_ascii rows x row all e = all_at (λ (r : ItemRow). IsAscii r.name) rows x row all e

-- the same in a valid script
pub item_named : (s : ScriptData) (x : ℕ) (row : ItemRow) → IsValid s → slice_get s.items x ≡ Some row → IsAscii row.name
item_named s x row valid e = item_ascii s.items x row (items_ascii s.nodes s.items valid.items) e

pub tree_named : (s : ScriptData) (t : ℕ) (tree : Tree) → IsValid s → slice_get s.trees t ≡ Some tree → IsAscii tree.name
tree_named s t tree valid e =
    all_at (λ (one : Tree). IsAscii one.name) s.trees t tree (trees_ascii s.nodes s.items s.trees valid.trees) e
