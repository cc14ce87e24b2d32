-- What a plan and a scratch mean: a step.
use Rattle.std.specs.Prelude.{◌≡◌, List, [], Ok, Option, Some, None}
use Rattle.tv_base.specs.declared.numbers.NodeNo.{NodeNo}
use Rattle.tv_base.specs.declared.numbers.SubNo.{SubNo}
use Rattle.tv_base.specs.declared.numbers.TreeNo.{TreeNo}
use Rattle.tv_base.specs.declared.numbers.Version.{Version}
use Rattle.item_versions.specs.Table.{StagedItems}
use Rattle.letter_types.specs.declared.entries.StepOut.{StepOut}
use Rattle.letter_types.specs.Steps.{Out}
use Rattle.tree_home.specs.Homes.{Gets}
use Rattle.nc_locks.specs.Locks.{Wanted}
use Rattle.nc_locks.specs.declared.modes.Lock.{Lock}
use Rattle.tree_home.specs.Maps.{by_tree}
use Rattle.tx_trees.specs.ScriptData.{ScriptData}
use Rattle.world_model.specs.Core.{Refusals}
use Rattle.world_model.specs.declared.refusal.NegativeVote.{NegativeVote}
use Rattle.tree_step.specs.Changes.{IsDone, IsNodeStepOf, part_row, replied, step_row}
use Rattle.tree_step.specs.Core.{core_of}
use Rattle.tree_step.specs.CoreChanges.{IsCoreDone, core_step_row, locks_with, refusals_with}
use Rattle.tree_step.specs.Node.{Node, data_of}
use Rattle.tree_step.specs.declared.node.NodeParts.{NodeParts}
use Rattle.tree_step.specs.steps.HomeChange.{HomeChange}
use Rattle.tree_step.specs.steps.HomeChange as homes
use Rattle.tree_step.specs.steps.TreeChange.{TreeChange}
use Rattle.tree_step.specs.steps.Change.{Change}
use Rattle.tree_step.specs.steps.Change as changes
use Rattle.tree_step.specs.steps.PartsStep.{PartsStep}
use Rattle.tree_step.specs.steps.TreeStep.{TreeStep}
use Rattle.tree_step.specs.steps.CoreStep.{CoreStep}
use Rattle.tree_step.specs.steps.HoldChange.{HoldChange}
use Rattle.tree_step.specs.steps.HoldChange as holds
use Rattle.tree_step.specs.steps.VoteChange.{VoteChange}
use Rattle.tree_step.specs.steps.VoteChange as votes
use Rattle.tree_step.specs.declared.node_core.NodeCore.{NodeCore}
use Rattle.tree_step.specs.declared.plan.HomePlan.{HomePlan}
use Rattle.tree_step.specs.declared.plan.HomePlan.TheVariants as home_plans
use Rattle.tree_step.specs.declared.plan.TreePlan.{TreePlan}
use Rattle.tree_step.specs.declared.plan.Doing.{Doing}
use Rattle.tree_step.specs.declared.plan.Doing.TheVariants as doings
use Rattle.tree_step.specs.declared.plan.HoldPlan.{HoldPlan}
use Rattle.tree_step.specs.declared.plan.HoldPlan.TheVariants as hold_plans
use Rattle.tree_step.specs.declared.plan.VotePlan.{VotePlan}
use Rattle.tree_step.specs.declared.plan.VotePlan.TheVariants as vote_plans
use Rattle.tree_step.specs.declared.plan.Plan.{Plan}
use Rattle.tree_step.specs.declared.plan.Scratch.{Scratch}

-- what the home of tree t does, for its subtransaction k
abbrev pub home_planned_at : TreeNo → SubNo → Gets → HomePlan → HomeChange
home_planned_at t k values home_plans.Stay = homes.Stay
home_planned_at t k values (home_plans.Open n v) = homes.Open t n v values
home_planned_at t k values home_plans.Note = homes.Note t k values
home_planned_at t k values home_plans.Forget = homes.Forget t

abbrev pub home_meant : TreePlan → Gets → HomeChange
home_meant p values = home_planned_at p.tree p.sub values p.home

-- what a node does for a subtransaction or a notice, by what is staged and by the values of the notice
abbrev pub tree_by : TreePlan → StagedItems → Gets → TreeChange
tree_by p staged values = record {
  raises = p.raises;
  staged = staged;
  counting = p.counting;
  home = home_meant p values;
}

abbrev pub tree_meant : TreePlan → Scratch → TreeChange
tree_meant p x = tree_by p x.staged x.values

-- what its parts do, by the same
abbrev pub doing_by : Doing → StagedItems → Gets → Change
doing_by doings.Still staged values = changes.Still
doing_by (doings.Tree p) staged values = changes.Tree (tree_by p staged values)
doing_by (doings.Turn v) staged values = changes.Turn v
doing_by (doings.Show v) staged values = changes.Show v
doing_by (doings.Sweep v) staged values = changes.Sweep v

abbrev pub doing_meant : Doing → Scratch → Change
doing_meant d x = doing_by d x.staged x.values

-- what goes out
abbrev pub out_in : Scratch → StepOut
out_in x = record { sent = x.sent; acts = x.acts }

abbrev pub parts_meant : Doing → Scratch → PartsStep
parts_meant d x = record { change = doing_meant d x; out = out_in x }

-- a plan of a node's parts and a scratch are this row of the node, and it may do the step
abbrev pub IsDoingPlan : (Node → Out Node) → NodeParts → Scratch → Doing → Type 0
IsDoingPlan row n x d = IsNodeStepOf (row (data_of n)) n (parts_meant d x)

-- before the tree is answered
abbrev pub part_meant : Scratch → TreeStep
part_meant x = record { parts = parts_meant x.plan.doing x; answered = x.answered }

-- its row, with the answer to the client of script s behind what it sends
abbrev pub replied_part : ScriptData → Scratch → NodeParts → Out Node
replied_part s x n = replied s (part_row (part_meant x) (data_of n))

-- what becomes of locks or negative votes, by the locks that are wanted and by the negative vote, if there is one
abbrev pub noted_by : TreeNo → Option NegativeVote → VoteChange
noted_by t None = votes.Stay
noted_by t (Some refusal) = votes.Note t refusal

abbrev pub votes_by : VotePlan → Wanted → Option NegativeVote → VoteChange
votes_by vote_plans.Stay wanted refusal = votes.Stay
votes_by (vote_plans.Take t) wanted refusal = votes.Take t wanted
votes_by (vote_plans.Free t) wanted refusal = votes.Free t
votes_by (vote_plans.Note t) wanted refusal = noted_by t refusal
votes_by (vote_plans.Drop t) wanted refusal = votes.Drop t

abbrev pub votes_meant : VotePlan → Scratch → VoteChange
votes_meant v x = votes_by v x.wanted x.refusal

-- a plan and a scratch mean this of locks or negative votes
abbrev pub MeansVotes : VoteChange → Scratch → VotePlan → Type 0
MeansVotes change x v = votes_meant v x ≡ change

-- what becomes of held answers, by the values of the answer and by the nodes that are told
abbrev pub held_by : TreeNo → Version → Gets → List NodeNo → HoldChange
held_by t v values told = holds.Hold (record { tree = t; version = v; values = values }) told

abbrev pub holds_by : HoldPlan → Gets → List NodeNo → HoldChange
holds_by hold_plans.Stay values told = holds.Stay
holds_by (hold_plans.Hold t v) values told = held_by t v values told
holds_by (hold_plans.Ack t) values told = holds.Ack t

abbrev pub holds_meant : HoldPlan → Scratch → HoldChange
holds_meant h x = holds_by h x.held x.told

-- the step, if this becomes of held answers
abbrev pub meant_with : Plan → Scratch → HoldChange → CoreStep
meant_with p x h = record {
  parts = parts_meant p.doing x;
  votes = votes_meant p.votes x;
  holds = h;
  epoch = p.epoch;
}

-- an answer of tree t and version v is held
abbrev pub meant_held : Plan → TreeNo → Version → Scratch → CoreStep
meant_held p t v x = meant_with p x (held_by t v x.held x.told)

-- the step
abbrev pub core_meant : Plan → Scratch → CoreStep
core_meant p x = meant_with p x (holds_meant p.holds x)

-- the step that a scratch plans
abbrev pub core_in : Scratch → CoreStep
core_in x = core_meant x.plan x

-- all stays
abbrev pub no_plan : Plan
no_plan = record { doing = doings.Still; votes = vote_plans.Stay; holds = hold_plans.Stay; epoch = None }

-- nothing is in the scratch
abbrev pub IsEmpty : Scratch → Type 0
IsEmpty x = x ≡ record {
  plan = no_plan;
  answered = None;
  staged = [];
  values = [];
  held = [];
  told = [];
  wanted = [];
  refusal = None;
  letter = None;
  sent = [];
  acts = [];
}

-- of a plan p, what the parts do is planned anew, as in q
abbrev pub planning : Plan → Plan → Plan
planning p q = record p { doing = q.doing }

-- what of a scratch changes, from x to y: what a part of a step plans and makes, with what is staged or without; what
-- another subtransaction than a root does; what a notice brings; what goes out alone
abbrev pub ChangesPart : Scratch → Scratch → Type 0
ChangesPart x y = y ≡ record x {
  plan = planning x.plan y.plan;
  answered = y.answered;
  staged = y.staged;
  values = y.values;
  sent = y.sent;
  acts = y.acts;
}

abbrev pub ChangesRoot : Scratch → Scratch → Type 0
ChangesRoot x y = y ≡ record x {
  plan = planning x.plan y.plan;
  answered = y.answered;
  values = y.values;
  sent = y.sent;
  acts = y.acts;
}

abbrev pub ChangesSub : Scratch → Scratch → Type 0
ChangesSub x y = y ≡ record x { plan = planning x.plan y.plan; sent = y.sent; acts = y.acts }

abbrev pub ChangesAnswer : Scratch → Scratch → Type 0
ChangesAnswer x y = y ≡ record x { answered = y.answered; values = y.values }

abbrev pub ChangesOut : Scratch → Scratch → Type 0
ChangesOut x y = y ≡ record x { sent = y.sent; acts = y.acts }

-- the locks that are wanted and the negative vote, and the negative vote alone
abbrev pub ChangesVotes : Scratch → Scratch → Type 0
ChangesVotes x y = y ≡ record x { wanted = y.wanted; refusal = y.refusal }

abbrev pub ChangesNo : Scratch → Scratch → Type 0
ChangesNo x y = y ≡ record x { refusal = y.refusal }

-- a step that a plan and a scratch mean was done: the node before it and after it
abbrev pub IsStepDone : CoreStep → Scratch → NodeCore → NodeCore → Type 0
IsStepDone p x old new = IsCoreDone (core_step_row p (core_of old)) old new (Ok (out_in x))

-- the same of a node's parts
abbrev pub IsDoingDone : Doing → Scratch → NodeParts → NodeParts → Type 0
IsDoingDone d x old new = IsDone (step_row (parts_meant d x) (data_of old)) old new (Ok (out_in x))

-- the locks and the negative votes that votes leave
abbrev pub locks_meant : VotePlan → Scratch → List Lock → List Lock
locks_meant v x ls = locks_with (votes_meant v x) ls

abbrev pub refusals_meant : VotePlan → Scratch → List (TreeNo × NegativeVote) → Refusals
refusals_meant v x rs = refusals_with (votes_meant v x) (by_tree rs)
