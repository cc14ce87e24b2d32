-- Values carried along the serial order. Only the code of the report cites it.
use Rattle.std.specs.Prelude.{◌≡◌, ◌<◌, ◌≤◌, ℕ, List, fold, length, slice_index_or, take}
use Rattle.commute_ops.specs.declared.value.Value.{Value}
use Rattle.tx_trees.specs.ScriptData.{ScriptData}
use Rattle.board_model.specs.declared.carried.Carried.{Carried}
use Rattle.board_model.specs.declared.serial.Member.{Member}
use Rattle.board_model.specs.Balances.{all_after_tree, first_values}
use Rattle.board_model.specs.SerialList.{trees_of_members}

-- the values after the first p members
abbrev pub after_members : ScriptData → List Member → ℕ → List Value
after_members s ms p = fold (all_after_tree s) (first_values s.items) (trees_of_members (take p ms))

-- the values after the members up to a place, all of which are of at most the version that was reached
pub record IsCarried (s : ScriptData) (ms : List Member) (c : Carried) : Type 0 where
  pub place : c.place ≤ length ms
  pub values : c.values ≡ after_members s ms c.place
  pub below : (i : ℕ) (d : Member) → i < c.place → (slice_index_or ms i d).version.0 ≤ c.version.0
