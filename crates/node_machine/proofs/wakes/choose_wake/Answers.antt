use Rattle.std.proofs.Common.{refl, sym}
use Rattle.letter_types.specs.declared.bodies.Body.TheVariants.{Wake}
use Rattle.tree_step.specs.Core.{core_of}
use Rattle.tree_step.specs.Meant.{core_in}
use Rattle.node_machine.specs.steps.ChosenStep.{Still, Does}
use Rattle.node_machine.proofs.enabled.TestsSayEnabled.{called_apt}
use Rattle.node_machine.proofs.coordinator_rows.OrderOfCore.{still_done}
use Rattle.node_machine.proofs.enabled.PlansByBody.{plan_one}
use Rattle.node_machine.proofs.wakes.choose_wake.Goals as goal

pub returns-then-not-wake_apt : goal.returns-then-not-wake_apt
returns-then-not-wake_apt c =
    let s = c.args.came.now.script.now in
    let l = c.args.came.now.letter.now in
    let n = c.args.core.now in
    plan_one s l n (Wake c.args.tree c.args.sub) _ Still c.requires.body
    (called_apt s l.to.0 l.from.0 (core_of n) c.args.tree c.args.sub) (sym c.if-not-wake_apt.ensures)

pub returns : goal.returns
returns c =
    let s = c.args.came.now.script.now in
    let l = c.args.came.now.letter.now in
    let n = c.args.core.now in
    plan_one s l n (Wake c.args.tree c.args.sub) _ (Does (core_in c.args.scratch.now)) c.requires.body
    (called_apt s l.to.0 l.from.0 (core_of n) c.args.tree c.args.sub)
    (record {
      apt = sym c.if-not-wake_apt.ensures;
      free = refl;
      step = still_done s l.to.0 n c.args.scratch.now c.requires.ready c.requires.empty;
    })
