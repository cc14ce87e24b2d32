use Rattle.std.proofs.Common.{refl, sym}
use Rattle.letter_types.specs.declared.bodies.Body.TheVariants.{Release}
use Rattle.tree_step.specs.Core.{core_of}
use Rattle.tree_step.specs.Meant.{core_in}
use Rattle.node_machine.specs.steps.ChosenStep.{Still, Does}
use Rattle.node_machine.proofs.enabled.TestsSayEnabled.{freed_apt}
use Rattle.node_machine.proofs.enabled.PlansByBody.{plan_one}
use Rattle.node_machine.proofs.decisions.choose_release.Goals as goal

pub returns-then-not-release_apt : goal.returns-then-not-release_apt
returns-then-not-release_apt c =
    let s = c.args.came.now.script.now in
    let l = c.args.came.now.letter.now in
    let n = c.args.core.now in
    plan_one s l n (Release c.args.tree) _ Still c.requires.body (freed_apt s l.to.0 l.from.0 (core_of n) c.args.tree)
    (sym c.if-not-release_apt.ensures)

pub returns : goal.returns
returns c =
    let s = c.args.came.now.script.now in
    let l = c.args.came.now.letter.now in
    let n = c.args.core.now in
    plan_one s l n (Release c.args.tree) _ (Does (core_in c.plan_release.new.scratch))
    c.requires.body (freed_apt s l.to.0 l.from.0 (core_of n) c.args.tree)
    (record { apt = sym c.if-not-release_apt.ensures; free = refl; step = c.in_ok-plan_release.ensures })
