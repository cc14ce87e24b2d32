-- What is planned of a letter.
use Rattle.letter_types.specs.declared.entries.Letter.{Letter}
use Rattle.tx_trees.specs.ScriptData.{ScriptData}
use Rattle.node_machine.specs.Meant.{IsPlanned}
use Rattle.node_machine.specs.State.{keeping_of}
use Rattle.node_machine.specs.declared.node_plan.NodePlan.{NodePlan}
use Rattle.node_machine.specs.declared.state.KeepingParts.{KeepingParts}
use Rattle.tree_step.specs.declared.plan.Scratch.{Scratch}
use Rattle.world_model.specs.Keeping.{keeping_row}

-- what a node is to do with a message is planned: its row of the node's table
abbrev pub IsLetterPlan : ScriptData → Letter → KeepingParts → NodePlan → Scratch → Type 0
IsLetterPlan s l n p x = IsPlanned (keeping_row s l.to.0 (keeping_of n) l) n p x
