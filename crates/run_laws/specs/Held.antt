-- What nodes hold of their items.
use Rattle.std.specs.Prelude.{ℕ, ◌≡◌, ◌<◌, List, reverse, Some, slice_get}
use Rattle.letter_types.specs.declared.entries.Entry.{Entry}
use Rattle.script_parts.specs.ScriptData.{ScriptData}
use Rattle.script_parts.specs.declared.parts.ItemRow.{ItemRow}
use Rattle.world_model.specs.Runs.{node_in}
use Rattle.board_rules.specs.Histories.{places_of}
use Rattle.board_rules.specs.Worth.{is_written}
use Rattle.run_laws.specs.Written.{holds_in, was_written}

-- above node p's low version, it holds just those versions of its item x in which one of its own acts writes it
abbrev pub HoldsWritten : ScriptData → List Entry → ℕ → ℕ → Type 0
HoldsWritten s past p x = (w : ℕ) (r : ItemRow) → slice_get s.items x ≡ Some r → r.node.0 ≡ p → (node_in s past p).turns.low.0 < w
    → holds_in (record { 0 = w }) (record { 0 = x }) (node_in s past p).items ≡ was_written s (places_of (reverse past)) p x w

-- acts of node p write its item x in just those versions in which transactions write it
abbrev pub IsWrittenAtEnd : ScriptData → List Entry → ℕ → ℕ → Type 0
IsWrittenAtEnd s past p x = (w : ℕ) (r : ItemRow) → slice_get s.items x ≡ Some r → r.node.0 ≡ p
    → was_written s (places_of (reverse past)) p x w ≡ is_written s (reverse past) x w
