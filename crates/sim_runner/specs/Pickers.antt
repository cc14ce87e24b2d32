-- The places that pickers name, and histories whose messages were taken as a picker chose.
use Rattle.std.specs.Prelude.{ℕ, zero, suc, ◌%◌, ◌≡◌, Bool, List, length, Some, slice_get, position, unwrap_or}
use Rattle.letter_types.specs.declared.entries.Entry.{Entry}
use Rattle.letter_types.specs.declared.entries.Letter.{Letter}
use Rattle.tx_trees.specs.ScriptData.{ScriptData}
use Rattle.world_model.specs.Scheduled.{waiting_at}

-- the place of the oldest message that passes a test, or 0 if none does
abbrev pub oldest_where : (Letter → Bool) → List Letter → ℕ
oldest_where test ls = unwrap_or (position test ls) 0

-- the picker before entry k of a history
abbrev pub picker_at : {P : Type 0} → (P → List Letter → P) → ScriptData → P → List Entry → ℕ → P
picker_at after s p h zero = p
picker_at after s p h (suc k) = after (picker_at after s p h k) (waiting_at s h k)

-- the number that the picker names for entry k
abbrev pub picked_at : {P : Type 0} → (P → List Letter → ℕ) → (P → List Letter → P) → ScriptData → P → List Entry → ℕ
    → ℕ
picked_at place after s p h k = place (picker_at after s p h k) (waiting_at s h k)

-- each entry took the message at the place that the picker named, modulo as many as were in flight
abbrev pub IsPickedBy : {P : Type 0} → (P → List Letter → ℕ) → (P → List Letter → P) → ScriptData → P → List Entry
    → Type 0
IsPickedBy place after s p h = (k : ℕ) (e : Entry) → slice_get h k ≡ Some e
    → slice_get (waiting_at s h k) (picked_at place after s p h k % length (waiting_at s h k)) ≡ Some e.took
