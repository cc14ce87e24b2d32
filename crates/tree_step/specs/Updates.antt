-- What a node does with a subtransaction of an update tree, if its operations may be made.
use Rattle.std.specs.Prelude.{◌≡◌, ℕ, List, nat_lt}
use Rattle.tv_base.specs.declared.numbers.Version.{Version}
use Rattle.item_versions.specs.Table.{StagedItems, pending}
use Rattle.item_versions.specs.Window.{IsWindowedTable}
use Rattle.tx_trees.specs.ScriptData.{ScriptData}
use Rattle.tx_trees.specs.declared.parts.SubOp.{SubOp}
use Rattle.letter_types.specs.declared.bodies.Body.{Body}
use Rattle.letter_types.specs.declared.entries.Letter.{Letter}
use Rattle.world_model.specs.Asked.{asked_ops, asked_version, tree_part}
use Rattle.world_model.specs.Done.{TreeOut}
use Rattle.world_model.specs.Updates.{table_after_ops, touching}
use Rattle.tree_step.specs.Changes.{IsTreePartOf}
use Rattle.tree_step.specs.Meant.{part_meant}
use Rattle.tree_step.specs.Node.{Node, data_of}
use Rattle.tree_step.specs.steps.TreeStep.{TreeStep}
use Rattle.tree_step.specs.declared.node.NodeParts.{NodeParts}
use Rattle.tree_step.specs.declared.plan.Scratch.{Scratch}

-- the row of a message whose operations may be made, before the tree is answered
abbrev pub update_part : ScriptData → ℕ → Node → ℕ → Body → TreeOut
update_part s p st from body =
    let v = asked_version st.turns.update body in
    tree_part s p from v (nat_lt st.turns.update.0 v.0) (touching v (asked_ops s body) st.items) body st

-- the step of such a message, before the tree is answered
abbrev pub IsUpdatePart : ScriptData → Letter → NodeParts → TreeStep → Type 0
IsUpdatePart s l n p = IsTreePartOf (update_part s l.to.0 (data_of n) l.from.0 l.body) n p

-- a scratch plans it
abbrev pub IsUpdatePartPlan : ScriptData → Letter → NodeParts → Scratch → Type 0
IsUpdatePartPlan s l n x = IsUpdatePart s l n (part_meant x)

-- what is staged is what the operations make of the node's items in version v
abbrev pub IsStagedBy : Version → List SubOp → NodeParts → StagedItems → Type 0
IsStagedBy v ops n staged = pending staged n.items ≡ table_after_ops v ops n.items

-- what is staged leaves the node's items in their window
abbrev pub FitsStaged : NodeParts → StagedItems → Type 0
FitsStaged n staged = IsWindowedTable n.turns.low.0 (pending staged n.items)
