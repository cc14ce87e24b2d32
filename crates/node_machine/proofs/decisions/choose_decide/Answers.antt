use Rattle.std.proofs.Common.{refl, sym}
use Rattle.letter_types.specs.declared.bodies.Body.TheVariants.{Decide}
use Rattle.tree_step.specs.Core.{core_of}
use Rattle.tree_step.specs.Meant.{core_in}
use Rattle.node_machine.specs.steps.ChosenStep.{Still, Does}
use Rattle.node_machine.proofs.enabled.TestsSayEnabled.{decision_apt}
use Rattle.node_machine.proofs.enabled.DecisionTests.{is_decision, ready_from}
use Rattle.node_machine.proofs.enabled.PlansByBody.{plan_one}
use Rattle.node_machine.proofs.decisions.choose_decide.Goals as goal

pub returns-then-not-decide_apt : goal.returns-then-not-decide_apt
returns-then-not-decide_apt c =
    let s = c.args.came.now.script.now in
    let l = c.args.came.now.letter.now in
    let n = c.args.core.now in
    let d = c.args.decision in
    plan_one s l n (Decide d.tree d.version d.commit) _ Still c.requires.body
    (decision_apt s l.to.0 l.from.0 (core_of n) d.tree d.version d.commit) (sym c.if-not-decide_apt.ensures)

pub plan_decide-requires-clause-ready : goal.plan_decide-requires-clause-ready
plan_decide-requires-clause-ready c =
    let s = c.args.came.now.script.now in
    let l = c.args.came.now.letter.now in
    let n = c.args.core.now in
    let d = c.args.decision in
    let is = is_decision s l.to.0 l.from.0 (core_of n) d.tree d.version d.commit (sym c.if-not-decide_apt.ensures) in
    ready_from s l.to.0 l.from.0 n c.requires.ready is.sent

pub plan_decide-requires-clause-strict : goal.plan_decide-requires-clause-strict
plan_decide-requires-clause-strict c =
    let l = c.args.came.now.letter.now in
    let d = c.args.decision in
    (is_decision c.args.came.now.script.now l.to.0 l.from.0 (core_of c.args.core.now) d.tree d.version d.commit
    (sym c.if-not-decide_apt.ensures)).strict

pub plan_decide-requires-clause-there : goal.plan_decide-requires-clause-there
plan_decide-requires-clause-there c =
    let l = c.args.came.now.letter.now in
    let d = c.args.decision in
    (is_decision c.args.came.now.script.now l.to.0 l.from.0 (core_of c.args.core.now) d.tree d.version d.commit
    (sym c.if-not-decide_apt.ensures)).there

pub plan_decide-requires-clause-near : goal.plan_decide-requires-clause-near
plan_decide-requires-clause-near c =
    let l = c.args.came.now.letter.now in
    let d = c.args.decision in
    (is_decision c.args.came.now.script.now l.to.0 l.from.0 (core_of c.args.core.now) d.tree d.version d.commit
    (sym c.if-not-decide_apt.ensures)).near

pub plan_decide-requires-clause-can : goal.plan_decide-requires-clause-can
plan_decide-requires-clause-can c =
    let l = c.args.came.now.letter.now in
    let d = c.args.decision in
    (is_decision c.args.came.now.script.now l.to.0 l.from.0 (core_of c.args.core.now) d.tree d.version d.commit
    (sym c.if-not-decide_apt.ensures)).can

pub returns : goal.returns
returns c =
    let s = c.args.came.now.script.now in
    let l = c.args.came.now.letter.now in
    let n = c.args.core.now in
    let d = c.args.decision in
    plan_one s l n (Decide d.tree d.version d.commit) _
    (Does (core_in c.plan_decide.new.scratch)) c.requires.body
    (decision_apt s l.to.0 l.from.0 (core_of n) d.tree d.version d.commit)
    (record { apt = sym c.if-not-decide_apt.ensures; free = refl; step = c.in_ok-plan_decide.ensures })
