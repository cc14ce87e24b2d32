-- What a node makes of the decision on a strict transaction.
use Rattle.std.specs.Prelude.{if◌then◌else◌, ℕ, Bool, true, false, not, ◌==◌, ◌&&◌, ◌||◌, List, [], ◌∷◌, ◌++◌, Option, Some, None}
use Rattle.tv_base.specs.declared.numbers.TreeNo.{TreeNo}
use Rattle.tv_base.specs.declared.numbers.Version.{Version}
use Rattle.commute_ops.specs.Ops.{is_bag, may_apply}
use Rattle.commute_ops.specs.declared.kinds.Op.TheVariants.{Add}
use Rattle.commute_ops.specs.declared.value.Value.{Value}
use Rattle.item_versions.specs.Item.{Held, has_room, seen}
use Rattle.item_versions.specs.Table.{Table, item_in, put_value_in}
use Rattle.script_parts.specs.ScriptData.{ScriptData, subs_at}
use Rattle.script_parts.specs.declared.parts.Deed.{Deed}
use Rattle.script_parts.specs.declared.parts.Deed.TheVariants.{Apply, Get, Set, Draw}
use Rattle.script_parts.specs.declared.parts.Sub.{Sub}
use Rattle.script_parts.specs.declared.parts.SubOp.{SubOp}
use Rattle.world_model.specs.Reads.{seen_in}
use Rattle.script_parts.specs.Deeds.{after_deed, overwrites}

-- the operations that the subtransactions have at node p, in order
abbrev pub ops_at : ℕ → List Sub → List SubOp
ops_at p [] = []
ops_at p (k ∷ ks) = if k.node.0 == p then k.ops ++ ops_at p ks else ops_at p ks

-- version v of an item is given what a set or a draw makes of what is seen there; so it is made if it is missing
abbrev pub overwritten : Version → SubOp → Option Value → Table → Table
overwritten v o None items = items
overwritten v o (Some w) items = put_value_in v o.item (after_deed o.deed w) items

abbrev pub overwritten_in : Version → SubOp → Table → Table
overwritten_in v o items = if overwrites o.deed then overwritten v o (seen_in v o.item items) items else items

-- the table after the sets and draws among these operations, in order
abbrev pub applied_in : Version → List SubOp → Table → Table
applied_in v [] items = items
applied_in v (o ∷ os) items = applied_in v os (overwritten_in v o items)

-- the table after a decision: a commit applies what transaction t has at node p in version v, and an abort nothing
abbrev pub decided_items : ScriptData → ℕ → TreeNo → Version → Bool → Table → Table
decided_items s p t v commit items = if commit then applied_in v (ops_at p (subs_at s t.0)) items else items

-- a value may be overwritten: a set is no bag's, and a draw is a sum's and keeps to the bound
abbrev pub may_overwrite : Deed → Value → Bool
may_overwrite (Set n) w = not (is_bag w)
may_overwrite (Draw n) w = may_apply w (Add n)
may_overwrite Get w = false
may_overwrite (Apply op) w = false

abbrev pub sees_fit : Deed → Option Value → Bool
sees_fit deed None = false
sees_fit deed (Some w) = may_overwrite deed w

-- the item is there, has room for version v, and what is seen there may be overwritten
abbrev pub can_overwrite : Version → Deed → Option Held → Bool
can_overwrite v deed None = false
can_overwrite v deed (Some h) = has_room v h && sees_fit deed (seen v h)

abbrev pub can_apply_op : Version → SubOp → Table → Bool
can_apply_op v o items = not (overwrites o.deed) || can_overwrite v o.deed (item_in o.item items)

-- each set and draw among these operations can be applied
abbrev pub can_apply : Version → List SubOp → Table → Bool
can_apply v [] items = true
can_apply v (o ∷ os) items = can_apply_op v o items && can_apply v os items

-- what a commit of transaction t applies at node p in version v can be applied
abbrev pub can_decide : ScriptData → ℕ → TreeNo → Version → Bool → Table → Bool
can_decide s p t v commit items = not commit || can_apply v (ops_at p (subs_at s t.0)) items
