-- A step of a node with deferred messages.
use Rattle.std.specs.Prelude.{Option}
use Rattle.tv_base.specs.declared.numbers.Version.{Version}
use Rattle.letter_types.specs.declared.entries.StepOut.{StepOut}
use Rattle.tree_step.specs.steps.CoreStep.{CoreStep}
use Rattle.node_machine.specs.steps.Keep.{Keep}
use Rattle.node_machine.specs.declared.node_plan.KeptPlan.{KeptPlan}

-- nothing changes, and this goes out; a message is deferred, the update version is raised to this one, if there is one,
-- and this goes out; or the core does its step, which has what goes out, and this becomes of the deferred messages
pub data KeepingStep : Type 0 where
  Still : StepOut → KeepingStep
  Keeps : Keep → Option Version → StepOut → KeepingStep
  Does : CoreStep → KeptPlan → KeepingStep
