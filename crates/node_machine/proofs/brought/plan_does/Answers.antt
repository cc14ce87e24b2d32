use Rattle.std.proofs.Common.{Option, ap, subst, ◌∙◌}
use Rattle.std.specs.Prelude.{IfOk}
use Rattle.letter_types.specs.declared.kept.KeepReason.{KeepReason}
use Rattle.letter_types.specs.Steps.{Out}
use Rattle.world_model.specs.Keeping.{KeepingNode}
use Rattle.tree_step.specs.CoreChanges.{core_step_row}
use Rattle.tree_step.specs.Core.{core_of}
use Rattle.tree_step.specs.Meant.{core_in}
use Rattle.node_machine.specs.Meant.{IsPlanned}
use Rattle.node_machine.specs.State.{keeping_of}
use Rattle.node_machine.specs.declared.node_plan.NodePlan.{NodePlan}
use Rattle.node_machine.specs.inside.Bringing.{waking_out, woken_for}
use Rattle.node_machine.proofs.node_rows.WhatIsWoken.{not_wake, wake_done, waking_done}
use Rattle.node_machine.proofs.brought.plan_does.Goals as goal

pub returns-in-Wake : goal.returns-in-Wake
returns-in-Wake c =
    let n = c.args.node.now in
    let from = c.requires.brought in
    record {
      row = wake_done c.args.letter.now.to.0 c.in-Wake.tree c.in-Wake.sub c.args.letter.now c.args.brought.now
          (keeping_of n) (core_step_row (core_in c.args.scratch.now) (core_of n.core)) c.in-Wake.is
          from.kept from.brings;
      may = c.requires.may;
    }

pub returns-in_default : goal.returns-in_default
returns-in_default c =
    let n = c.args.node.now in
    let l = c.args.letter.now in
    let o = core_step_row (core_in c.args.scratch.now) (core_of n.core) in
    subst (λ (out : Out KeepingNode). IfOk c.plan_waking.result
    (λ (p : NodePlan). IsPlanned out n p c.plan_waking.new.scratch))
    (ap (λ (r : Option KeepReason). waking_out (woken_for r) (keeping_of n) o) c.woken_by-woken.ensures
    ∙ waking_done l c.args.brought.now (keeping_of n) o (not_wake l.body c.in_default.not-Wake)
    c.requires.brought.brings)
    c.plan_waking.ensures
