-- What a core does with a message.
use Rattle.tree_step.specs.steps.CoreStep.{CoreStep}
use Rattle.node_machine.specs.steps.CoreKept.{CoreKept}

-- the message isn't enabled: nothing; it is deferred, since it can't be done yet; or its row is done
pub data ChosenStep : Type 0 where
  Still : ChosenStep
  Keeps : CoreKept → ChosenStep
  Does : CoreStep → ChosenStep
