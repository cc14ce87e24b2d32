-- A step of a node's core.
use Rattle.std.specs.Prelude.{ℕ, Option}
use Rattle.tree_step.specs.steps.PartsStep.{PartsStep}
use Rattle.tree_step.specs.steps.VoteChange.{VoteChange}
use Rattle.tree_step.specs.steps.HoldChange.{HoldChange}

-- what the parts do and what goes out, what becomes of locks or negative votes and of held answers, and the epoch of
-- which the node hears, if it hears of one. The answer that an acknowledgement sets free is among what goes out
pub record CoreStep : Type 0 where
  pub parts : PartsStep
  pub votes : VoteChange
  pub holds : HoldChange
  pub epoch : Option ℕ
