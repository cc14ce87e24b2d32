-- What an item is worth at a version: its initial value, folded over the deeds of the serial order up to there.
use Rattle.std.specs.Prelude.{if◌then◌else◌, ℕ, Bool, true, false, ◌==◌, ◌&&◌, ◌||◌, ◌+◌, pos, List, [], ◌∷◌, fold, Option, Some, None, slice_get}
use Rattle.std.specs.List.{list_any}
use Rattle.commute_ops.specs.declared.value.Value.{Value}
use Rattle.commute_ops.specs.declared.value.Value.TheVariants.{Sum}
use Rattle.commute_ops.specs.Ops.{value_start}
use Rattle.letter_types.specs.declared.entries.Entry.{Entry}
use Rattle.script_parts.specs.ScriptData.{ScriptData, subs_at}
use Rattle.script_parts.specs.declared.parts.Deed.{Deed}
use Rattle.script_parts.specs.declared.parts.Deed.TheVariants as deeds
use Rattle.script_parts.specs.declared.parts.ItemRow.{ItemRow}
use Rattle.script_parts.specs.declared.parts.Sub.{Sub}
use Rattle.script_parts.specs.declared.parts.SubOp.{SubOp}
use Rattle.script_parts.specs.declared.parts.Tree.{Tree}
use Rattle.script_parts.specs.declared.parts.TreeKind.{TreeKind}
use Rattle.script_parts.specs.declared.parts.TreeKind.TheVariants.{Update, Read, Strict}
pub use Rattle.script_parts.specs.Deeds.{after_deed, with_drawn, with_set}
use Rattle.board_rules.specs.Histories.{Place, places_of, version_of, was_decided_as}
use Rattle.board_rules.specs.Serial.{is_version, serial_in}

-- the value of item x after the operations on it
abbrev pub after_ops : ℕ → List SubOp → Value → Value
after_ops x os w = fold (λ v o. if o.item.0 == x then after_deed o.deed v else v) w os

abbrev pub after_subs : ℕ → List Sub → Value → Value
after_subs x ks w = fold (λ v k. after_ops x k.ops v) w ks

-- the value of item x after transaction t
abbrev pub after_tree : ScriptData → ℕ → Value → ℕ → Value
after_tree s x w t = after_subs x (subs_at s t) w

-- the initial value of an item
abbrev pub first_value : Option ItemRow → Value
first_value None = Sum (record { 0 = pos 0 })
first_value (Some row) = value_start row.kind row.initial

-- what item x is worth after these transactions, in order
abbrev pub worth_after : ScriptData → ℕ → List ℕ → Value
worth_after s x ts = fold (after_tree s x) (first_value (slice_get s.items x)) ts

-- what item x is worth at version v after these acts
abbrev pub worth_in : ScriptData → List Place → ℕ → ℕ → Value
worth_in s xs x v = worth_after s x (serial_in s xs v)

-- the same of a history
abbrev pub worth : ScriptData → List Entry → ℕ → ℕ → Value
worth s h x v = worth_in s (places_of h) x v

-- the deed changes its item
abbrev pub changes : Deed → Bool
changes deeds.Get = false
changes _ = true

-- a change of item x is among these
abbrev pub ops_change : ℕ → List SubOp → Bool
ops_change x os = list_any (λ o. (o.item.0 == x) && changes o.deed) os

abbrev pub subs_change : ℕ → List Sub → Bool
subs_change x ks = list_any (λ k. ops_change x k.ops) ks

-- a transaction of this kind writes, whatever it was born as: an update transaction does, and a strict transaction that
-- was decided to commit
abbrev pub may_write : List Entry → ℕ → TreeKind → Bool
may_write h t Update = true
may_write h t Read = false
may_write h t Strict = was_decided_as t true (places_of h)

-- transaction t is of version v, writes, and changes item x
abbrev pub writes : List Entry → ℕ → ℕ → ℕ → Tree → Bool
writes h x v t tree = (is_version v (version_of h t) && may_write h t tree.kind) && subs_change x tree.subs

-- the same of one of the transactions, if the list begins with transaction t
abbrev pub trees_write : List Entry → ℕ → ℕ → ℕ → List Tree → Bool
trees_write h x v t [] = false
trees_write h x v t (tree ∷ ts) = writes h x v t tree || trees_write h x v (t + 1) ts

-- an update transaction of version v, complete or not, or a committed strict transaction of version v changes item x
abbrev pub is_written : ScriptData → List Entry → ℕ → ℕ → Bool
is_written s h x v = trees_write h x v 0 s.trees
