-- What all items are worth at a version, side by side, and which of them are written. Only the code of the report cites
-- it.
use Rattle.std.specs.Prelude.{ℕ, zero, suc, Bool, ◌+◌, List, [], ◌∷◌, Some}
use Rattle.commute_ops.specs.declared.value.Value.{Value}
use Rattle.letter_types.specs.declared.entries.Entry.{Entry}
use Rattle.tx_trees.specs.ScriptData.{ScriptData, subs_at}
use Rattle.tx_trees.specs.declared.parts.ItemRow.{ItemRow}
use Rattle.tx_trees.specs.declared.parts.Sub.{Sub}
use Rattle.tx_trees.specs.declared.parts.SubOp.{SubOp}
use Rattle.board_rules.specs.Worth.{after_deed, first_value, is_written, worth}

-- f of the number of each item, if the list begins with item x
abbrev pub by_number : {A : Type 0} → (ℕ → A) → ℕ → List ItemRow → List A
by_number f x [] = []
by_number f x (row ∷ rows) = f x ∷ by_number f (x + 1) rows

-- what each item is worth at version v, by item number
abbrev pub worths : ScriptData → List Entry → ℕ → List Value
worths s h v = by_number (λ (x : ℕ). worth s h x v) 0 s.items

-- which items are written in version v, by item number
abbrev pub written_items : ScriptData → List Entry → ℕ → List Bool
written_items s h v = by_number (λ (x : ℕ). is_written s h x v) 0 s.items

-- the initial value of each item
abbrev pub first_values : List ItemRow → List Value
first_values [] = []
first_values (row ∷ rows) = first_value (Some row) ∷ first_values rows

-- the value of item x changed, if it is there
abbrev pub on_item : ℕ → (Value → Value) → List Value → List Value
on_item x f [] = []
on_item zero f (w ∷ ws) = f w ∷ ws
on_item (suc x) f (w ∷ ws) = w ∷ on_item x f ws

-- the values after an operation on its item
abbrev pub all_after_op : SubOp → List Value → List Value
all_after_op o ws = on_item o.item.0 (after_deed o.deed) ws

abbrev pub all_after_ops : List SubOp → List Value → List Value
all_after_ops [] ws = ws
all_after_ops (o ∷ os) ws = all_after_ops os (all_after_op o ws)

abbrev pub all_after_subs : List Sub → List Value → List Value
all_after_subs [] ws = ws
all_after_subs (k ∷ ks) ws = all_after_subs ks (all_after_ops k.ops ws)

-- the values after transaction t
abbrev pub all_after_tree : ScriptData → List Value → ℕ → List Value
all_after_tree s ws t = all_after_subs (subs_at s t) ws
