-- A step of a tree's message, before the tree is answered.
use Rattle.std.specs.Prelude.{Option}
use Rattle.tree_home.specs.declared.homes.Answered.{Answered}
use Rattle.tree_step.specs.steps.PartsStep.{PartsStep}

-- the step of the parts; and the answer of the tree, if its home misses no notice any more
pub record TreeStep : Type 0 where
  pub parts : PartsStep
  pub answered : Option Answered
