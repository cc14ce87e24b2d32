-- Whether the operations that a message asks for may be made, and which messages fit a node that keeps versions without
-- end.
use Rattle.std.specs.Prelude.{Bool, true, false, Option, Some}
use Rattle.letter_types.specs.declared.bodies.Body.{Body}
use Rattle.letter_types.specs.declared.bodies.Body.TheVariants.{Root, Sub as SubLetter, Sweep}
use Rattle.script_parts.specs.ScriptData.{ScriptData}
use Rattle.script_parts.specs.declared.parts.TreeKind.{TreeKind}
use Rattle.script_parts.specs.declared.parts.TreeKind.TheVariants.{Update, Read}
use Rattle.world_model.specs.Node.{Node}
use Rattle.world_model.specs.Named.{tree_kind_at}
use Rattle.world_model.specs.Updates.{can_update}
use Rattle.world_model.specs.Reads.{can_read}
use Rattle.item_versions.specs.Collecting.{may_collect_all}

-- the operations that a message asks for may be made, if it asks for some of a transaction of this kind
abbrev pub can_make_by : ScriptData → Node → Body → Option TreeKind → Bool
can_make_by s st body (Some Update) = can_update s st body
can_make_by s st body (Some Read) = can_read s st body
can_make_by s st body _ = false

-- the operations that a message asks for, if it asks for some, may be made
abbrev pub can_make : ScriptData → Node → Body → Bool
can_make s st (Root t) = can_make_by s st (Root t) (tree_kind_at s t.0)
can_make s st (SubLetter t k v) = can_make_by s st (SubLetter t k v) (tree_kind_at s t.0)
can_make s st _ = true

-- if versions are kept without end, only a collection has to fit: each item has a version at most its own
abbrev pub is_widely_timely : ScriptData → Node → Body → Bool
is_widely_timely s st (Sweep v) = may_collect_all v st.items
is_widely_timely s st _ = true
