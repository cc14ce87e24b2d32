use Rattle.std.proofs.Common.{sym}
use Rattle.tree_step.specs.Meant.{core_in}
use Rattle.world_model.specs.Notices.{values_of}
use Rattle.node_machine.proofs.tree_rows.NoticePlan.{note_far, note_plan, note_undue}
use Rattle.node_machine.proofs.notices.choose_note.Goals as goal

pub returns-then-not-is_due : goal.returns-then-not-is_due
returns-then-not-is_due c =
    let r = c.args.noted.request in
    note_undue c.args.came.now.script.now c.args.came.now.letter.now c.args.core.now r.tree r.sub r.version c.args.noted.notice.now
    c.requires.body c.if-not-is_due.ensures

pub returns-then-not-decides_near : goal.returns-then-not-decides_near
returns-then-not-decides_near c =
    let r = c.args.noted.request in
    note_far c.args.came.now.script.now c.args.came.now.letter.now c.args.core.now r.tree r.sub r.version c.args.noted.notice.now
    c.requires.body c.if-not-is_due.ensures (sym (c.if-not-decides_near.ensures (values_of c.args.noted.notice.now)))

pub plan_note-requires-clause-decides : goal.plan_note-requires-clause-decides
plan_note-requires-clause-decides c = sym (c.if-not-decides_near.ensures (values_of c.args.noted.notice.now))

pub returns : goal.returns
returns c =
    let r = c.args.noted.request in
    let notice = c.args.noted.notice.now in
    note_plan c.args.came.now.script.now c.args.came.now.letter.now c.args.core.now r.tree r.sub r.version notice r.from.0
    (core_in c.plan_note.new.scratch) c.requires.body c.if-not-is_due.ensures
    (sym (c.if-not-decides_near.ensures (values_of notice))) c.requires.from c.in_ok-plan_note.ensures
