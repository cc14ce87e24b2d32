-- A step of a node's parts.
use Rattle.letter_types.specs.declared.entries.StepOut.{StepOut}
use Rattle.tree_step.specs.steps.Change.{Change}

-- what the parts do, and what goes out
pub record PartsStep : Type 0 where
  pub change : Change
  pub out : StepOut
