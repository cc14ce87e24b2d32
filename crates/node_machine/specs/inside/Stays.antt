-- A step in which a core stays as it is but for its node and the epoch of which it has heard. Private code alone cites
-- these definitions.
use Rattle.std.specs.Prelude.{ℕ, [], Option, None}
use Rattle.letter_types.specs.Steps.{Out}
use Rattle.tree_step.specs.steps.Change.{Still}
use Rattle.tree_step.specs.steps.PartsStep.{PartsStep}
use Rattle.world_model.specs.Core.{Core}
use Rattle.world_model.specs.Node.{Node}
use Rattle.tree_step.specs.CoreChanges.{epoch_with, core_step_of}
use Rattle.tree_step.specs.steps.CoreStep.{CoreStep}
use Rattle.tree_step.specs.steps.HoldChange as holds
use Rattle.tree_step.specs.steps.VoteChange as votes
use Rattle.tree_step.specs.declared.plan.Doing.{Doing}
use Rattle.tree_step.specs.declared.plan.HoldPlan.TheVariants as hold_plans
use Rattle.tree_step.specs.declared.plan.Plan.{Plan}
use Rattle.tree_step.specs.declared.plan.VotePlan.TheVariants as vote_plans

-- a step of a node's parts, in which locks, negative votes and held answers stay, and the node hears of this epoch, if
-- of one
abbrev pub of_parts : PartsStep → Option ℕ → CoreStep
of_parts p epoch = record (core_step_of p votes.Stay holds.Stay) { epoch = epoch }

-- the plan of that
abbrev pub plan_of : Doing → Option ℕ → Plan
plan_of doing epoch =
    record { doing = doing; votes = vote_plans.Stay; holds = hold_plans.Stay; epoch = epoch }

-- the step in which nothing changes and nothing is sent
abbrev pub still_step : CoreStep
still_step = of_parts (record { change = Still; out = record { sent = []; acts = [] } }) None

-- a core whose node does this, and which hears of this epoch, if of one
abbrev pub hearing : Option ℕ → Core → Out Node → Out Core
hearing epoch c out = record {
  state = record c { node = out.state; epoch = epoch_with epoch c.epoch };
  sent = out.sent;
  acts = out.acts;
}
