-- What a node does with a subtransaction of a read tree, if its operations may be made.
use Rattle.std.specs.Prelude.{ℕ, false}
use Rattle.tx_trees.specs.ScriptData.{ScriptData}
use Rattle.letter_types.specs.declared.bodies.Body.{Body}
use Rattle.letter_types.specs.declared.entries.Letter.{Letter}
use Rattle.world_model.specs.Asked.{asked_ops, asked_version, tree_part}
use Rattle.world_model.specs.Done.{TreeOut}
use Rattle.world_model.specs.Reads.{getting}
use Rattle.tree_step.specs.Changes.{IsTreePartOf}
use Rattle.tree_step.specs.Meant.{part_meant}
use Rattle.tree_step.specs.Node.{Node, data_of}
use Rattle.tree_step.specs.steps.TreeStep.{TreeStep}
use Rattle.tree_step.specs.declared.node.NodeParts.{NodeParts}
use Rattle.tree_step.specs.declared.plan.Scratch.{Scratch}

-- the row of a message whose operations may be made, before the tree is answered
abbrev pub read_part : ScriptData → ℕ → Node → ℕ → Body → TreeOut
read_part s p st from body =
    let v = asked_version st.turns.read body in
    tree_part s p from v false (getting v (asked_ops s body) st.items) body st

-- the step of such a message, before the tree is answered
abbrev pub IsReadPart : ScriptData → Letter → NodeParts → TreeStep → Type 0
IsReadPart s l n p = IsTreePartOf (read_part s l.to.0 (data_of n) l.from.0 l.body) n p

-- a scratch plans it
abbrev pub IsReadPartPlan : ScriptData → Letter → NodeParts → Scratch → Type 0
IsReadPartPlan s l n x = IsReadPart s l n (part_meant x)
