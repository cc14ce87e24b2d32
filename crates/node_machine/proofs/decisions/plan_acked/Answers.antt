use Rattle.std.proofs.Common.{◌≡◌, ◌++◌, ◌∙◌, ap, subst, sym}
use Rattle.tree_home.specs.HeldAnswers.{held_answers, held_in}
use Rattle.tree_home.specs.Maps.{by_tree}
use Rattle.world_model.specs.Strict.{answer_letters}
use Rattle.tree_step.specs.Meant.{core_meant}
use Rattle.tree_step.specs.declared.plan.Plan.{Plan}
use Rattle.tree_step.specs.declared.plan.Scratch.{Scratch}
use Rattle.node_machine.proofs.tree_rows.DecisionApplied.{acked_plan, acked_step}
use Rattle.node_machine.specs.Answering.{IsAckedStep}
use Rattle.node_machine.specs.inside.Decided.{plan_with}
use Rattle.node_machine.proofs.decisions.plan_acked.Goals as goal

pub returns : goal.returns
returns c =
    let s = c.args.script.now in
    let n = c.args.core.now in
    let a = c.args.acked in
    let answered = c.in_ok-answered.answered in
    let x = c.args.scratch.now in
    let y : Scratch = record x { sent = c.push_strict_reply.new.sent } in
    let same : c.plan_with-scratch.result
    ≡ acked_plan a.tree a.from a.version answered (held_in a.tree (held_answers n.parts.homes)) =
    c.plan_with-scratch.ensures
    ∙ λ i. plan_with (c.completing-doing.ensures i) (c.dropping-votes.ensures i) (c.acking.ensures i) in
    subst (λ (p : Plan). IsAckedStep s a n (core_meant p y)) (sym same)
    (acked_step s a.from a.tree a.version n y answered c.requires.ready c.requires.near c.in_ok-answered.ensures
    (c.in_ok-push_strict_reply.ensures
    ∙ ap (λ (w : Scratch). w.sent ++ answer_letters s (by_tree n.refusals) answered) c.requires.empty)
    (ap (λ (w : Scratch). w.acts) c.requires.empty) (ap (λ (w : Scratch). w.staged) c.requires.empty))
