-- What the operations of a read transaction show of a node's items.
use Rattle.std.specs.Prelude.{Bool, true, ◌&&◌, List, [], ◌∷◌, Option, Some, None, is_some}
use Rattle.tv_base.specs.declared.numbers.ItemNo.{ItemNo}
use Rattle.tv_base.specs.declared.numbers.Version.{Version}
use Rattle.commute_ops.specs.declared.value.Value.{Value}
use Rattle.item_versions.specs.Item.{seen}
use Rattle.item_versions.specs.Table.{Table, item_in}
use Rattle.tree_home.specs.Homes.{Gets}
use Rattle.script_parts.specs.ScriptData.{ScriptData}
use Rattle.script_parts.specs.declared.parts.SubOp.{SubOp}
use Rattle.script_parts.specs.declared.parts.Deed.{Deed}
use Rattle.script_parts.specs.declared.parts.Deed.TheVariants.{Get}
use Rattle.letter_types.specs.declared.bodies.Body.{Body}
use Rattle.letter_types.specs.declared.bodies.Notice.TheVariants.{Did}
use Rattle.world_model.specs.Node.{Effect, Node}
use Rattle.world_model.specs.Asked.{asked_ops, asked_version}

-- what is seen of an item in version v; nothing if it isn't there
abbrev pub seen_in : Version → ItemNo → Table → Option Value
seen_in v x items = elim (item_in x items) [ None ↦ None | Some h ↦ seen v h ]

-- the value of an operation that gets: none if it isn't one, or the item isn't there
abbrev pub got_by_deed : Version → ItemNo → Deed → Table → Option Value
got_by_deed v x Get items = seen_in v x items
got_by_deed v x _ items = None

-- each operation is a get of an item that is there
abbrev pub can_get : Version → List SubOp → Table → Bool
can_get v [] items = true
can_get v (o ∷ os) items = is_some (got_by_deed v o.item o.deed items) && can_get v os items

-- an item's value before others, if there is one
abbrev pub with_get : ItemNo → Option Value → Gets → Gets
with_get x None ws = ws
with_get x (Some w) ws = (x, w) ∷ ws

-- the values of gets in version v, in order
abbrev pub gets : Version → List SubOp → Table → Gets
gets v [] items = []
gets v (o ∷ os) items = with_get o.item (got_by_deed v o.item o.deed items) (gets v os items)

-- a read leaves the items
abbrev pub getting : Version → List SubOp → Table → Effect
getting v ops items = record { items = items; notice = Did (gets v ops items) }

-- the operations that a message asks for may be made; a root takes the node's read version
abbrev pub can_read : ScriptData → Node → Body → Bool
can_read s st body = can_get (asked_version st.turns.read body) (asked_ops s body) st.items
