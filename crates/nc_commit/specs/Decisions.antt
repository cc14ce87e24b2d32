-- What a node makes of the decision on a strict tree.
use Rattle.std.specs.Prelude.{ℕ, Bool, ◌&&◌}
use Rattle.item_versions.specs.Table.{Table}
use Rattle.tx_trees.specs.ScriptData.{ScriptData}
use Rattle.nc_commit.specs.declared.decisions.Decision.{Decision}
pub use Rattle.world_model.specs.Decisions.{ops_at, overwritten, overwritten_in, applied_in, may_overwrite, sees_fit, can_overwrite, can_apply_op, can_apply}
use Rattle.world_model.specs.Decisions.{can_decide, decided_items}
use Rattle.world_model.specs.Named.{is_strict_at}

-- the table after a decision
abbrev pub decided_in : ScriptData → ℕ → Decision → Table → Table
decided_in s p d items = decided_items s p d.tree d.version d.commit items

-- a decision may be applied at node p: its tree is a strict tree, and what a commit applies can be applied
abbrev pub may_apply_decision : ScriptData → ℕ → Decision → Table → Bool
may_apply_decision s p d items = is_strict_at s d.tree.0 && can_decide s p d.tree d.version d.commit items
