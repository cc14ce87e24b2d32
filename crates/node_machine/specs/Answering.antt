-- When the tree of a message may be answered, or decided, and what a scratch plans then.
use Rattle.std.specs.Prelude.{◌≡◌, ◌<◌, ⊤, if◌then◌else◌, Bool, List, [], length, IsTrue, Option, Some, None}
use Rattle.tv_base.specs.declared.numbers.TreeNo.{TreeNo}
use Rattle.item_versions.specs.Window.{in_window}
use Rattle.letter_types.specs.declared.bodies.Body.TheVariants.{Release}
use Rattle.letter_types.specs.declared.entries.Letter.{Letter}
use Rattle.letter_types.specs.declared.entries.Outgoing.{Outgoing}
use Rattle.tree_home.specs.HeldAnswers.{held_answers, held_in}
use Rattle.tree_home.specs.Homes.{home_in}
use Rattle.tree_home.specs.declared.homes.Answered.{Answered}
use Rattle.tx_trees.specs.ScriptData.{ScriptData, subs_at, visited_by}
use Rattle.world_model.specs.Node.{Node}
use Rattle.world_model.specs.Decisions.{can_decide}
use Rattle.world_model.specs.Strict.{acked_core, answered, decide_core, decided, marks, release_core, to_each}
use Rattle.nc_commit.specs.declared.decisions.Decision.{Decision}
use Rattle.tree_step.specs.Changes.{after_change, part_row}
use Rattle.tree_step.specs.Meant.{core_in, part_meant, votes_meant}
use Rattle.tree_step.specs.Node.{IsOf, data_of}
use Rattle.tree_step.specs.steps.TreeStep.{TreeStep}
use Rattle.tree_step.specs.Core.{AreApart, core_of}
use Rattle.tree_step.specs.CoreChanges.{IsCoreStepOf, with_votes}
use Rattle.tree_step.specs.steps.CoreStep.{CoreStep}
use Rattle.tree_step.specs.steps.VoteChange.{VoteChange}
use Rattle.tree_step.specs.declared.node_core.NodeCore.{NodeCore}
use Rattle.tree_step.specs.declared.plan.Scratch.{Scratch}
use Rattle.tree_step.specs.declared.plan.VotePlan.{VotePlan}
use Rattle.node_machine.specs.declared.decisions.Acknowledgement.{Acknowledgement}

-- what commuting trees see of the node after the step
abbrev pub node_after : TreeStep → NodeCore → Node
node_after p n = after_change p.parts.change p.parts.out.sent (data_of n.parts)

-- after the step no open tree has a held answer
abbrev pub IsApartAfter : TreeStep → NodeCore → Type 0
IsApartAfter p n = AreApart (node_after p n).homes (held_answers n.parts.homes)

-- the tree of this answer may be decided: it is there, isn't open any more, has no held answer, and its version is one in
-- which the node counts
pub record IsDecidable (s : ScriptData) (p : TreeStep) (n : NodeCore) (a : Answered) : Type 0 where
  pub script : IsOf s n.parts
  pub there : 0 < length (subs_at s a.tree.0)
  pub gone : home_in a.tree (node_after p n).homes ≡ None
  pub unheld : held_in a.tree (held_answers n.parts.homes) ≡ None
  pub near : IsTrue (in_window (node_after p n).turns.low.0 a.version.0)

-- so may the tree that is answered, if one is
abbrev pub MayDecide : ScriptData → TreeStep → NodeCore → Option Answered → Type 0
MayDecide s p n None = ⊤
MayDecide s p n (Some a) = IsDecidable s p n a

-- the messages that let the marks of a tree go
abbrev pub tree_releases : ScriptData → TreeNo → List Outgoing
tree_releases s t = if marks s t.0 then to_each (Release t) (visited_by s t.0) else []

-- a step with this part, and the answer to the client if the tree is answered
abbrev pub IsAnsweredStep : ScriptData → VoteChange → TreeStep → NodeCore → CoreStep → Type 0
IsAnsweredStep s votes p n step =
    IsCoreStepOf (answered s (with_votes votes (core_of n)) (part_row p (data_of n.parts))) n step

-- the same, with the decision if the tree is answered
abbrev pub IsDecidedStep : ScriptData → VoteChange → TreeStep → NodeCore → CoreStep → Type 0
IsDecidedStep s votes p n step =
    IsCoreStepOf (decided s (with_votes votes (core_of n)) (part_row p (data_of n.parts)) p.answered) n step

-- scratch y plans such a step, if scratch x plans the part, and the plan of the votes goes by it
abbrev pub IsAnsweredPlan : ScriptData → VotePlan → NodeCore → Scratch → Scratch → Type 0
IsAnsweredPlan s v n x y = IsAnsweredStep s (votes_meant v x) (part_meant x) n (core_in y)

abbrev pub IsDecidedPlan : ScriptData → VotePlan → NodeCore → Scratch → Scratch → Type 0
IsDecidedPlan s v n x y = IsDecidedStep s (votes_meant v x) (part_meant x) n (core_in y)

-- the decision that a message brings can be applied at the node
abbrev pub can_decide_at : ScriptData → Letter → Decision → NodeCore → Bool
can_decide_at s l d n = can_decide s l.to.0 d.tree d.version d.commit n.parts.items

-- the step of a message that brings a decision
abbrev pub IsDecideStep : ScriptData → Letter → Decision → NodeCore → CoreStep → Type 0
IsDecideStep s l d n step = IsCoreStepOf (decide_core s l.to.0 l.from.0 d.tree d.version d.commit (core_of n)) n step

-- the step of an acknowledgement at a strict tree's home
abbrev pub IsAckedStep : ScriptData → Acknowledgement → NodeCore → CoreStep → Type 0
IsAckedStep s a n step = IsCoreStepOf (acked_core s a.from.0 a.tree a.version (core_of n)) n step

-- the step of a message that lets the marks of a tree go
abbrev pub IsReleaseStep : TreeNo → NodeCore → CoreStep → Type 0
IsReleaseStep t n step = IsCoreStepOf (release_core t (core_of n)) n step
