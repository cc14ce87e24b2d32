-- What reads show if compensated transactions are left out: the values that items have by the other transactions alone.
use Rattle.std.specs.Prelude.{ℕ, Bool, false, not, List, filter, Some, None, is_some, slice_get}
use Rattle.commute_ops.specs.declared.value.Value.{Value}
use Rattle.letter_types.specs.declared.entries.Entry.{Entry}
use Rattle.tx_trees.specs.ScriptData.{ScriptData}
use Rattle.board_rules.specs.Serial.{serial_to}
use Rattle.board_rules.specs.Worth.{worth_after}
use Rattle.run_laws.specs.Stays.{ReadsShow}

-- transaction t is there, and was compensated: a subtransaction of what was written failed
abbrev pub is_undone : ScriptData → ℕ → Bool
is_undone s t = elim (slice_get s.trees t) [ Some tree ↦ is_some tree.written | None ↦ false ]

-- what item x is worth at version v by the transactions that weren't compensated: the others are left out of the serial
-- order
abbrev pub worth_kept : ScriptData → List Entry → ℕ → ℕ → Value
worth_kept s h x v = worth_after s x (filter (λ (t : ℕ). not (is_undone s t)) (serial_to s h v))

-- no step of a read transaction gave anything of a transaction that was compensated: its values are what its items are
-- worth at the transaction's version in all of h, without any such transaction
abbrev pub ShowsNothingUndone : ScriptData → List Entry → Type 0
ShowsNothingUndone s h = ReadsShow (worth_kept s h) s h
