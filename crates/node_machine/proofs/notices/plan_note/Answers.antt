use Rattle.std.proofs.Common.{◌∙◌, ap, subst, sym}
use Rattle.std.specs.Prelude.{OnOk}
use Rattle.letter_types.specs.Steps.{Out}
use Rattle.tree_home.specs.HeldAnswers.{held_answers}
use Rattle.tree_home.specs.Homes.{Gets, open_trees}
use Rattle.world_model.specs.Core.{Core}
use Rattle.world_model.specs.Done.{note_part}
use Rattle.world_model.specs.Notices.{values_of}
use Rattle.tree_step.specs.Changes.{part_row}
use Rattle.tree_step.specs.Node.{data_of}
use Rattle.tree_step.specs.CoreChanges.{IsCoreStepOf}
use Rattle.tree_step.specs.Core.{core_of}
use Rattle.tree_step.specs.Meant.{core_in, part_meant, votes_meant}
use Rattle.tree_step.specs.declared.plan.Scratch.{Scratch}
use Rattle.node_machine.proofs.tree_rows.NoHeldAnswerOpen.{apart_noted, apart_part}
use Rattle.node_machine.proofs.tree_rows.VoteRows.{note_answered, note_decided, note_decides}
use Rattle.node_machine.proofs.notices.plan_note.Goals as goal

pub plan_answered-requires-clause-apart : goal.plan_answered-requires-clause-apart
plan_answered-requires-clause-apart c =
    let r = c.args.request in
    let n = c.args.core.now in
    let values = c.values_of-values.result.now in
    apart_part (part_meant c.plan_notice.new.scratch) n
    (note_part r.from.0 r.tree.0 r.sub.0 r.version.0 values (data_of n.parts))
    c.in_ok-plan_notice.ensures.part.row
    (apart_noted r.tree r.sub values (open_trees n.parts.homes) (held_answers n.parts.homes) c.requires.ready.apart)

pub returns-then-not-is_strict : goal.returns-then-not-is_strict
returns-then-not-is_strict c =
    let r = c.args.request in
    let n = c.args.core.now in
    let row = c.in_ok-plan_notice.ensures.part.row
    ∙ ap (λ (vs : Gets). note_part r.from.0 r.tree.0 r.sub.0 r.version.0 vs (data_of n.parts))
    c.values_of-values.ensures in
    subst (λ (o : Out Core). OnOk c.plan_answered.result (IsCoreStepOf o n (core_in c.plan_answered.new.scratch)))
    (note_answered c.args.script.now r.from.0 r.tree r.sub r.version c.args.notice.now (core_of n)
    (part_row (part_meant c.plan_notice.new.scratch) (data_of n.parts))
    (sym c.if-not-is_strict.ensures) row)
    c.plan_answered.ensures

pub plan_decided-requires-clause-apart : goal.plan_decided-requires-clause-apart
plan_decided-requires-clause-apart c =
    let r = c.args.request in
    let n = c.args.core.now in
    let values = c.values_of-values.result.now in
    apart_part (part_meant c.plan_notice-2.new.scratch) n
    (note_part r.from.0 r.tree.0 r.sub.0 r.version.0 values (data_of n.parts))
    c.in_ok-plan_notice-2.ensures.part.row
    (apart_noted r.tree r.sub values (open_trees n.parts.homes) (held_answers n.parts.homes) c.requires.ready.apart)

pub plan_decided-requires-clause-decide : goal.plan_decided-requires-clause-decide
plan_decided-requires-clause-decide c =
    let r = c.args.request in
    let n = c.args.core.now in
    let row = c.in_ok-plan_notice-2.ensures.part.row
    ∙ ap (λ (vs : Gets). note_part r.from.0 r.tree.0 r.sub.0 r.version.0 vs (data_of n.parts))
    c.values_of-values.ensures in
    note_decides c.args.script.now r.from.0 r.tree r.sub r.version (values_of c.args.notice.now) n
    (part_meant c.plan_notice-2.new.scratch)
    c.requires.ready.parts.script c.requires.there (sym c.if-not-is_strict.ensures) c.requires.decides
    c.requires.ready.apart row

pub plan_decided-requires-clause-none_told : goal.plan_decided-requires-clause-none_told
plan_decided-requires-clause-none_told c =
    ap (λ (x : Scratch). x.told) c.in_ok-plan_notice-2.ensures.rest
    ∙ ap (λ (x : Scratch). x.told) c.refused_there-votes.ensures.rest ∙ ap (λ (x : Scratch). x.told) c.requires.empty

pub returns : goal.returns
returns c =
    let r = c.args.request in
    let n = c.args.core.now in
    let x = c.plan_notice-2.new.scratch in
    let row = c.in_ok-plan_notice-2.ensures.part.row
    ∙ ap (λ (vs : Gets). note_part r.from.0 r.tree.0 r.sub.0 r.version.0 vs (data_of n.parts))
    c.values_of-values.ensures in
    let votes = ap (λ (w : Scratch). votes_meant c.refused_there-votes.result w) c.in_ok-plan_notice-2.ensures.rest
    ∙ c.refused_there-votes.ensures.votes in
    subst (λ (o : Out Core). OnOk c.plan_decided.result (IsCoreStepOf o n (core_in c.plan_decided.new.scratch)))
    (note_decided c.args.script.now r.from.0 r.tree r.sub r.version c.args.notice.now (core_of n)
    (part_row (part_meant x) (data_of n.parts)) _ (sym c.if-not-is_strict.ensures) row votes)
    c.plan_decided.ensures
