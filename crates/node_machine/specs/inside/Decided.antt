-- The plan of a decision and of an acknowledgement. Private code alone cites these definitions.
use Rattle.std.specs.Prelude.{ℕ, false, List, Option, Some, None}
use Rattle.tv_base.specs.declared.numbers.NodeNo.{NodeNo}
use Rattle.tv_base.specs.declared.numbers.TreeNo.{TreeNo}
use Rattle.tv_base.specs.declared.numbers.Version.{Version}
use Rattle.letter_types.specs.declared.bodies.Body.TheVariants.{Decide}
use Rattle.letter_types.specs.declared.entries.Outgoing.{Outgoing}
use Rattle.tree_home.specs.declared.homes.Answered.{Answered}
use Rattle.tree_home.specs.declared.homes.Held.{Held}
use Rattle.world_model.specs.Strict.{to_each}
use Rattle.nc_commit.specs.declared.decisions.Decision.{Decision}
use Rattle.tree_step.specs.CoreChanges.{numbers_of_nodes}
use Rattle.tree_step.specs.declared.plan.Doing.{Doing}
use Rattle.tree_step.specs.declared.plan.Doing.TheVariants.{Tree}
use Rattle.tree_step.specs.declared.plan.HoldPlan.{HoldPlan}
use Rattle.tree_step.specs.declared.plan.HoldPlan.TheVariants as holds
use Rattle.tree_step.specs.declared.plan.HomePlan.TheVariants as homes
use Rattle.tree_step.specs.declared.plan.Plan.{Plan}
use Rattle.tree_step.specs.declared.plan.VotePlan.{VotePlan}
use Rattle.tree_step.specs.declared.plan.VotePlan.TheVariants.{Stay, Drop}

-- the plan of these three parts, by which a node hears of no epoch
abbrev pub plan_with : Doing → VotePlan → HoldPlan → Plan
plan_with d v h = record { doing = d; votes = v; holds = h; epoch = None }

-- the messages that tell these nodes a decision
abbrev pub decides_to : Decision → List NodeNo → List Outgoing
decides_to d qs = to_each (Decide d.tree d.version d.commit) (numbers_of_nodes qs)

-- a completion from node q is counted, and the first of the messages that are sent, as many as are asked
abbrev pub completing : TreeNo → NodeNo → Version → ℕ → Doing
completing t q v asked = Tree (record {
  tree = t;
  sub = record { 0 = 0 };
  raises = false;
  counting = record { version = v; root = false; from = q; asked = asked };
  home = homes.Stay;
})

-- what becomes of the negative votes at an answer: that of its tree goes
abbrev pub dropping : Option Answered → VotePlan
dropping None = Stay
dropping (Some a) = Drop a.tree

-- what becomes of held answers at an acknowledgement of a tree: they stay if none of this tree is held
abbrev pub acking : TreeNo → Option Held → HoldPlan
acking t None = holds.Stay
acking t (Some h) = holds.Ack t
