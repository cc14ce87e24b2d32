-- What the operations of an update transaction make of a node's items.
use Rattle.std.specs.Prelude.{Bool, true, false, ◌&&◌, List, [], ◌∷◌}
use Rattle.tv_base.specs.declared.numbers.ItemNo.{ItemNo}
use Rattle.tv_base.specs.declared.numbers.Version.{Version}
use Rattle.item_versions.specs.Table.{Table, touched_in, may_touch_in}
use Rattle.script_parts.specs.ScriptData.{ScriptData}
use Rattle.script_parts.specs.declared.parts.SubOp.{SubOp}
use Rattle.script_parts.specs.declared.parts.Deed.{Deed}
use Rattle.script_parts.specs.declared.parts.Deed.TheVariants.{Apply}
use Rattle.letter_types.specs.declared.bodies.Body.{Body}
use Rattle.letter_types.specs.declared.bodies.Notice.TheVariants.{Did}
use Rattle.world_model.specs.Node.{Effect, Node}
use Rattle.world_model.specs.Asked.{asked_ops, asked_version}

-- an operation of an update may be made in version v: it is one that commutes, and the table's item takes it
abbrev pub may_make : Version → ItemNo → Deed → Table → Bool
may_make v x (Apply op) items = may_touch_in v x op items
may_make v x _ items = false

-- the table after it
abbrev pub table_after_deed : Version → ItemNo → Deed → Table → Table
table_after_deed v x (Apply op) items = touched_in v x op items
table_after_deed v x _ items = items

-- operations may be made in order
abbrev pub can_touch : Version → List SubOp → Table → Bool
can_touch v [] items = true
can_touch v (o ∷ os) items = may_make v o.item o.deed items && can_touch v os (table_after_deed v o.item o.deed items)

-- the table after them
abbrev pub table_after_ops : Version → List SubOp → Table → Table
table_after_ops v [] items = items
table_after_ops v (o ∷ os) items = table_after_ops v os (table_after_deed v o.item o.deed items)

-- an update shows nothing
abbrev pub touching : Version → List SubOp → Table → Effect
touching v ops items = record { items = table_after_ops v ops items; notice = Did [] }

-- the operations that a message asks for may be made; a root takes the node's update version
abbrev pub can_update : ScriptData → Node → Body → Bool
can_update s st body = can_touch (asked_version st.turns.update body) (asked_ops s body) st.items
