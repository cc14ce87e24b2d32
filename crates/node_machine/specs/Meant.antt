-- What a plan of a node and a scratch mean: a step.
use Rattle.std.specs.Prelude.{Ok, Option, Some, None}
use Rattle.letter_types.specs.declared.entries.Letter.{Letter}
use Rattle.letter_types.specs.Steps.{Out}
use Rattle.world_model.specs.Keeping.{KeepingNode}
use Rattle.tree_step.specs.Meant.{core_in, out_in}
use Rattle.tree_step.specs.declared.plan.Scratch.{Scratch}
use Rattle.node_machine.specs.steps.Keep.{Keep, New, Again}
use Rattle.node_machine.specs.steps.KeepingStep.{KeepingStep}
use Rattle.node_machine.specs.steps.KeepingStep as steps
use Rattle.node_machine.specs.declared.node_plan.KeepPlan.{KeepPlan}
use Rattle.node_machine.specs.declared.node_plan.NodePlan.{NodePlan}
use Rattle.node_machine.specs.declared.node_plan.NodePlan.TheVariants as nodes
use Rattle.node_machine.specs.declared.state.KeepingParts.{KeepingParts}
use Rattle.node_machine.specs.Changes.{IsKeepingDone, IsKeepingStepOf}

-- how a message is deferred: one that came now, or the called one once more
abbrev pub keep_meant : KeepPlan → Option Letter → Keep
keep_meant k (Some l) = New (record { letter = l; tree = k.tree; sub = k.sub; why = k.why })
keep_meant k None = Again k.tree k.sub k.why

-- the step
abbrev pub node_meant : NodePlan → Scratch → KeepingStep
node_meant nodes.Still x = steps.Still (out_in x)
node_meant (nodes.Keeps k) x = steps.Keeps (keep_meant k x.letter) k.raises (out_in x)
node_meant (nodes.Does k) x = steps.Does (core_in x) k

-- a plan and a scratch are this row of a node, and the node may do it
abbrev pub IsPlanned : Out KeepingNode → KeepingParts → NodePlan → Scratch → Type 0
IsPlanned o n p x = IsKeepingStepOf o n (node_meant p x)

-- what is planned was done: the node before it and after it
abbrev pub IsNodeDone : NodePlan → Scratch → KeepingParts → KeepingParts → Type 0
IsNodeDone p x old new = IsKeepingDone (node_meant p x) old new (Ok (out_in x))
