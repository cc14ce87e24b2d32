-- What a scratch plans of a subtransaction. Private code alone cites these definitions.
use Rattle.tv_base.specs.declared.numbers.TreeNo.{TreeNo}
use Rattle.letter_types.specs.declared.entries.Letter.{Letter}
use Rattle.tx_trees.specs.ScriptData.{ScriptData}
use Rattle.tree_step.specs.AtNode.{IsReadStep, IsUpdateStep}
use Rattle.tree_step.specs.Meant.{core_in}
use Rattle.tree_step.specs.declared.node_core.NodeCore.{NodeCore}
use Rattle.tree_step.specs.declared.plan.Scratch.{Scratch}

-- it is of a read tree
abbrev pub IsReadBy : ScriptData → Letter → NodeCore → Scratch → Type 0
IsReadBy s l n x = IsReadStep s l n (core_in x)

-- it is of update tree t
abbrev pub IsUpdateBy : ScriptData → Letter → TreeNo → NodeCore → Scratch → Type 0
IsUpdateBy s l t n x = IsUpdateStep s l t n (core_in x)
