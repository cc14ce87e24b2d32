-- What is known, and what is promised, of a message or a request at a node.
use Rattle.std.specs.Prelude.{ℕ, ◌&&◌, Bool, IsTrue, List, length, None}
use Rattle.commute_ops.specs.declared.value.Value.{Value}
use Rattle.tv_base.specs.declared.numbers.ItemNo.{ItemNo}
use Rattle.tv_base.specs.declared.numbers.TreeNo.{TreeNo}
use Rattle.letter_types.specs.declared.bodies.Notice.{Notice}
use Rattle.letter_types.specs.declared.entries.Letter.{Letter}
use Rattle.letter_types.specs.declared.entries.Outgoing.{Outgoing}
use Rattle.pair_counters.specs.Counts.{Counts}
use Rattle.pair_counters.specs.Numbers.{asked_all}
use Rattle.tree_home.specs.HeldAnswers.{held_answers}
use Rattle.tree_home.specs.Homes.{open_trees}
use Rattle.tx_trees.specs.ScriptData.{ScriptData, subs_at}
use Rattle.world_model.specs.Asked.{tree_part}
use Rattle.world_model.specs.Done.{counted_root, counted_sub, note_part, root_part, sub_done, with_open_tree}
use Rattle.world_model.specs.Notices.{answer_noted}
use Rattle.world_model.specs.Strict.{is_near_answer, is_unheld, note_core, read_core, strict_core, update_core}
use Rattle.tree_step.specs.Changes.{IsTreePartOf}
use Rattle.tree_step.specs.Core.{core_of}
use Rattle.tree_step.specs.CoreChanges.{IsCoreStepOf}
use Rattle.tree_step.specs.Due.{is_due}
use Rattle.tree_step.specs.Meant.{part_meant}
use Rattle.tree_step.specs.Node.{Staging, data_of, effect_on}
use Rattle.tree_step.specs.declared.asked.InVersion.{InVersion}
use Rattle.tree_step.specs.declared.asked.Request.{Request}
use Rattle.tree_step.specs.declared.asked.SubTurn.{SubTurn}
use Rattle.tree_step.specs.steps.TreeStep.{TreeStep}
use Rattle.tree_step.specs.steps.CoreStep.{CoreStep}
use Rattle.tree_step.specs.declared.node.NodeParts.{NodeParts}
use Rattle.tree_step.specs.declared.node_core.NodeCore.{NodeCore}
use Rattle.tree_step.specs.declared.plan.Scratch.{Scratch}

-- a message is named, new and timely at a node
abbrev pub IsDueAt : ScriptData → Letter → NodeParts → Type 0
IsDueAt s l n = IsTrue (is_due s l.to.0 (data_of n) l.from.0 l.body)

-- of its tree no answer is held there
abbrev pub IsUnheldAt : Letter → NodeParts → Type 0
IsUnheldAt l n = IsTrue (is_unheld l.body (held_answers n.homes))

-- the subtransaction that a message asks for, in this version and with this effect, before its tree is answered
abbrev pub IsTreePartAt : ScriptData → Letter → InVersion → Staging → NodeParts → TreeStep → Type 0
IsTreePartAt s l within e n p = IsTreePartOf
    (tree_part s l.to.0 l.from.0 within.version within.raises (effect_on n.items e) l.body (data_of n)) n p

-- the same, planned: of a turn, before a scratch x and with a scratch y
abbrev pub IsTreePlanAt : ScriptData → Letter → SubTurn → NodeParts → Scratch → Scratch → Type 0
IsTreePlanAt s l turn n x y =
    IsTreePartAt s l turn.within (record { staged = x.staged; notice = turn.notice }) n (part_meant y)

-- the root of a tree
abbrev pub IsRootPart : ScriptData → Request → Staging → NodeParts → TreeStep → Type 0
IsRootPart s r e n p = IsTreePartOf
    (root_part s r.from.0 r.tree.0 r.version.0 (effect_on n.items e)
    (with_open_tree r.tree.0 (length (subs_at s r.tree.0)) r.version.0 (data_of n))) n p

-- the same, planned
abbrev pub IsRootPlan : ScriptData → Request → Notice → NodeParts → Scratch → Scratch → Type 0
IsRootPlan s r notice n x y = IsRootPart s r (record { staged = x.staged; notice = notice }) n (part_meant y)

-- another subtransaction
abbrev pub IsSubPart : ScriptData → Request → Bool → Staging → NodeParts → TreeStep → Type 0
IsSubPart s r raises e n p = IsTreePartOf (record {
  out = sub_done s r.from.0 r.tree.0 r.sub.0 r.version.0 raises (effect_on n.items e) (data_of n);
  answered = None;
}) n p

-- the same, planned
abbrev pub IsSubPlan : ScriptData → Request → SubTurn → NodeParts → Scratch → Scratch → Type 0
IsSubPlan s r turn n x y =
    IsSubPart s r turn.within.raises (record { staged = x.staged; notice = turn.notice }) n (part_meant y)

-- a notice of these values at its tree's home
abbrev pub IsNotedPart : Request → List (ItemNo × Value) → NodeParts → TreeStep → Type 0
IsNotedPart r values n p = IsTreePartOf (note_part r.from.0 r.tree.0 r.sub.0 r.version.0 values (data_of n)) n p

-- a subtransaction of a read tree, of an update tree, and of a strict tree, with what becomes of its tree
abbrev pub IsReadStep : ScriptData → Letter → NodeCore → CoreStep → Type 0
IsReadStep s l n p = IsCoreStepOf (read_core s l.to.0 l.from.0 l.body (core_of n)) n p

abbrev pub IsUpdateStep : ScriptData → Letter → TreeNo → NodeCore → CoreStep → Type 0
IsUpdateStep s l t n p = IsCoreStepOf (update_core s l.to.0 l.from.0 t l.body (core_of n)) n p

abbrev pub IsVoteStep : ScriptData → Letter → TreeNo → NodeCore → CoreStep → Type 0
IsVoteStep s l t n p = IsCoreStepOf (strict_core s l.to.0 l.from.0 t l.body (core_of n)) n p

-- a notice, with what becomes of its tree
abbrev pub IsNoteStep : ScriptData → Request → Notice → NodeCore → CoreStep → Type 0
IsNoteStep s r notice n p = IsCoreStepOf (note_core s r.from.0 r.tree r.sub r.version notice (core_of n)) n p

-- what is counted once requests of version v are to go to these nodes, once the root of a tree is done, and once
-- another subtransaction is
abbrev pub asked_counts : ℕ → List ℕ → Counts → Counts
asked_counts v qs k = record k { numbers = asked_all v qs k.numbers }

abbrev pub asked_by_root : ℕ → ℕ → List Outgoing → Counts → Counts
asked_by_root v p children k = record k { numbers = counted_root v p children k.numbers }

abbrev pub asked_by_sub : ℕ → ℕ → List Outgoing → Counts → Counts
asked_by_sub v from sent k = record k { numbers = counted_sub v from sent k.numbers }

-- a message is free: it is due, and of its tree no answer is held
abbrev pub is_free_at : ScriptData → Letter → NodeParts → Bool
is_free_at s l n = is_due s l.to.0 (data_of n) l.from.0 l.body && is_unheld l.body (held_answers n.homes)

-- the answer that a notice of these values completes, if it completes one, is of a version in which the home counts
abbrev pub answers_near : ScriptData → Request → List (ItemNo × Value) → NodeParts → Bool
answers_near s r values n = is_near_answer s (data_of n) (answer_noted r.tree r.sub values (open_trees n.homes))
