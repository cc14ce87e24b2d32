-- What a node sees of its items.
use Rattle.std.specs.Prelude.{ℕ, Bool, false, nat_le, List, Option, Some, None}
use Rattle.tv_base.specs.declared.numbers.Version.{Version}
use Rattle.commute_ops.specs.declared.value.Value.{Value}
use Rattle.letter_types.specs.declared.entries.Entry.{Entry}
use Rattle.world_model.specs.Reads.{seen_in}
use Rattle.tx_trees.specs.ScriptData.{ScriptData}
use Rattle.world_model.specs.Runs.{node_in}

-- the version is there, and at most v
abbrev pub is_up_to : ℕ → Option Version → Bool
is_up_to v None = false
is_up_to v (Some w) = nat_le w.0 v

-- what node p sees of item x in version v after a past
abbrev pub seen_at : ScriptData → List Entry → ℕ → ℕ → ℕ → Option Value
seen_at s past p x v = seen_in (record { 0 = v }) (record { 0 = x }) (node_in s past p).items
