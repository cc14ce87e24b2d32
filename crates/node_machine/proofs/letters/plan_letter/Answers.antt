use Rattle.std.proofs.Common.{ℕ, sym, subst}
use Rattle.std.specs.Prelude.{IfOk}
use Rattle.letter_types.specs.Steps.{Out}
use Rattle.world_model.specs.Keeping.{KeepingNode}
use Rattle.node_machine.specs.Choices.{kept_by_plan}
use Rattle.node_machine.specs.Plans.{kept_core}
use Rattle.tree_step.specs.CoreChanges.{core_step_row}
use Rattle.tree_step.specs.Core.{IsCoreReady, core_of}
use Rattle.tree_step.specs.Meant.{core_in}
use Rattle.node_machine.specs.Meant.{IsPlanned}
use Rattle.node_machine.specs.State.{keeping_of}
use Rattle.node_machine.specs.declared.node_plan.NodePlan.{NodePlan}
use Rattle.node_machine.proofs.node_rows.BroughtAddressed.{brought_to}
use Rattle.node_machine.proofs.node_rows.DeferredOrDoneRows.{does_row, keeps_row, kept_asks}
use Rattle.node_machine.proofs.letters.plan_letter.Goals as goal

pub choose_core-requires-clause-ready : goal.choose_core-requires-clause-ready
choose_core-requires-clause-ready c =
    let n = c.args.node.now in
    subst (λ (p : ℕ). IsCoreReady c.args.came.now.script.now p n.core)
    (sym (brought_to n.kept c.args.came.now.letter.now c.in-Some.brought.now c.requires.ready.kept (sym c.in-Some.ensures)))
    c.requires.ready.core

pub plan_keep-requires-clause-asks : goal.plan_keep-requires-clause-asks
plan_keep-requires-clause-asks c =
    let core = core_of c.args.node.now.core in
    let plan = rw c.in-Keeps.is at c.in_ok-choose_core.ensures in
    kept_asks c.args.came.now.script.now core c.in-Some.brought.now.body
    (kept_core (kept_by_plan c.in-Keeps.keep c.choose_core.new.scratch.acts) core) plan.kept

pub returns-in-Keeps : goal.returns-in-Keeps
returns-in-Keeps c =
    let n = c.args.node.now in
    let l = c.args.came.now.letter.now in
    let r = c.in-Some.brought.now in
    let s = c.args.came.now.script.now in
    let k = kept_by_plan c.in-Keeps.keep c.choose_core.new.scratch.acts in
    let to = brought_to n.kept l r c.requires.ready.kept (sym c.in-Some.ensures) in
    let plan = rw c.in-Keeps.is at c.in_ok-choose_core.ensures in
    subst (λ (o : Out KeepingNode). IfOk c.plan_keep.result (λ (p : NodePlan). IsPlanned o n p c.plan_keep.new.scratch))
    (keeps_row s l.to.0 (keeping_of n) l r (kept_core k (core_of n.core)) (sym c.in-Some.ensures)
    to plan.apt plan.kept) c.plan_keep.ensures

pub returns-in-Does : goal.returns-in-Does
returns-in-Does c =
    let n = c.args.node.now in
    let l = c.args.came.now.letter.now in
    let r = c.in-Some.brought.now in
    let s = c.args.came.now.script.now in
    let done = core_in c.choose_core.new.scratch in
    let to = brought_to n.kept l r c.requires.ready.kept (sym c.in-Some.ensures) in
    let plan = rw c.in-Does.is at c.in_ok-choose_core.ensures in
    subst (λ (o : Out KeepingNode). IfOk c.plan_does.result (λ (p : NodePlan). IsPlanned o n p c.plan_does.new.scratch))
    (does_row s l.to.0 (keeping_of n) l r (core_step_row done (core_of n.core)) (sym c.in-Some.ensures)
    to plan.apt plan.free plan.step.row) c.plan_does.ensures
