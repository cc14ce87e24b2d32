use Rattle.std.proofs.Common.{ℕ, refl, sym, subst}
use Rattle.letter_types.specs.declared.bodies.Body.TheVariants.{Decided}
use Rattle.world_model.specs.Strict.{acked_core}
use Rattle.tree_step.specs.Core.{IsCoreReady, core_of}
use Rattle.tree_step.specs.CoreChanges.{IsCoreStepOf}
use Rattle.tree_step.specs.Meant.{core_in}
use Rattle.node_machine.specs.steps.ChosenStep.{Still, Does}
use Rattle.node_machine.proofs.enabled.TestsSayEnabled.{ack_apt}
use Rattle.node_machine.proofs.enabled.DecisionTests.{is_ack, ready_from}
use Rattle.node_machine.proofs.enabled.PlansByBody.{plan_one}
use Rattle.node_machine.proofs.decisions.choose_acked.Goals as goal

pub returns-then-not-acked_apt : goal.returns-then-not-acked_apt
returns-then-not-acked_apt c =
    let s = c.args.came.now.script.now in
    let l = c.args.came.now.letter.now in
    let n = c.args.core.now in
    let a = c.args.acked in
    plan_one s l n (Decided a.tree a.version) _ Still c.requires.body
    (ack_apt s l.to.0 l.from.0 (core_of n) a.tree a.version) (sym c.if-not-acked_apt.ensures)

pub plan_acked-requires-clause-ready : goal.plan_acked-requires-clause-ready
plan_acked-requires-clause-ready c =
    let s = c.args.came.now.script.now in
    let l = c.args.came.now.letter.now in
    let n = c.args.core.now in
    let a = c.args.acked in
    let is = is_ack s l.to.0 l.from.0 (core_of n) a.tree a.version (sym c.if-not-acked_apt.ensures) in
    subst (λ (p : ℕ). IsCoreReady s p n) (sym c.requires.from) (ready_from s l.to.0 l.from.0 n c.requires.ready is.sent)

pub plan_acked-requires-clause-near : goal.plan_acked-requires-clause-near
plan_acked-requires-clause-near c =
    let a = c.args.acked in
    (is_ack c.args.came.now.script.now c.args.came.now.letter.now.to.0 c.args.came.now.letter.now.from.0 (core_of c.args.core.now) a.tree a.version
    (sym c.if-not-acked_apt.ensures)).near

pub returns : goal.returns
returns c =
    let s = c.args.came.now.script.now in
    let l = c.args.came.now.letter.now in
    let n = c.args.core.now in
    let a = c.args.acked in
    let plan = core_in c.plan_acked.new.scratch in
    plan_one s l n (Decided a.tree a.version) _ (Does plan) c.requires.body
    (ack_apt s l.to.0 l.from.0 (core_of n) a.tree a.version)
    (record {
      apt = sym c.if-not-acked_apt.ensures;
      free = refl;
      step = subst (λ (p : ℕ). IsCoreStepOf (acked_core s p a.tree a.version (core_of n)) n plan) c.requires.from
          c.in_ok-plan_acked.ensures;
    })
