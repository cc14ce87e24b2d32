use Rattle.std.proofs.Common.{List, Option, subst, sym, refl}
use Rattle.letter_types.specs.declared.entries.Outgoing.{Outgoing}
use Rattle.letter_types.specs.declared.kept.KeepReason.{KeepReason}
use Rattle.letter_types.specs.Kept.{wakes}
use Rattle.tree_step.specs.CoreChanges.{core_step_row}
use Rattle.tree_step.specs.Core.{core_of}
use Rattle.tree_step.specs.Meant.{core_in}
use Rattle.node_machine.specs.Meant.{IsPlanned}
use Rattle.node_machine.specs.State.{keeping_of}
use Rattle.node_machine.specs.Waits.{waits_alike}
use Rattle.node_machine.specs.declared.node_plan.KeptPlan.TheVariants.{Stay, Call}
use Rattle.node_machine.specs.declared.node_plan.NodePlan.TheVariants.{Does}
use Rattle.node_machine.specs.inside.Bringing.{waking_out, woken_for}
use Rattle.node_machine.proofs.node_rows.WakesBehindStep.{waking_step}
use Rattle.node_machine.proofs.node_rows.WhatIsWoken.{silent}
use Rattle.node_machine.proofs.brought.plan_waking.Goals as goal

pub returns-in_default : goal.returns-in_default
returns-in_default c =
    let n = c.args.node.now in
    let x = c.args.scratch.now in
    let row = core_step_row (core_in x) (core_of n.core) in
    subst (λ (w : Option KeepReason). IsPlanned (waking_out (woken_for w) (keeping_of n) row) n (Does Stay) x)
    (sym c.in_default.is) (record { row = silent (keeping_of n) row; may = c.requires })

pub returns : goal.returns
returns c =
    let n = c.args.node.now in
    let x = c.args.scratch.now in
    let r = c.in-Some.why in
    let done = core_in x in
    let row = core_step_row done (core_of n.core) in
    let plan = Does (Call r) in
    subst (λ (w : Option KeepReason). IsPlanned (waking_out (woken_for w) (keeping_of n) row) n plan
    (record x { sent = c.push_wakes.new.sent }))
    (sym c.in-Some.is)
    (subst (λ (ls : List Outgoing). IsPlanned (waking_out (waits_alike r) (keeping_of n) row) n plan (record x { sent = ls }))
    (sym c.in_ok-push_wakes.ensures)
    (waking_step r n done (wakes (waits_alike r) n.kept) c.requires refl))
