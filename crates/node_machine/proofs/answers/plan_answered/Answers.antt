use Rattle.std.proofs.Common.{◌++◌, ◌∙◌, List, Option, ap, subst, sym}
use Rattle.tv_base.specs.declared.numbers.ActorNo.{ActorNo}
use Rattle.letter_types.specs.declared.entries.Outgoing.{Outgoing}
use Rattle.world_model.specs.Notices.{reply_letters}
use Rattle.world_model.specs.Strict.{release_letters}
use Rattle.tree_home.specs.declared.homes.Answered.{Answered}
use Rattle.tx_trees.specs.ScriptData.{client_of}
use Rattle.tree_step.specs.declared.plan.Plan.{Plan}
use Rattle.node_machine.proofs.tree_rows.AnswerOrDecisionPlans.{answered_planned}
use Rattle.node_machine.specs.Answering.{IsAnsweredPlan}
use Rattle.node_machine.proofs.answers.plan_answered.Goals as goal

pub returns : goal.returns
returns c =
    let s = c.args.script.now in
    let x = c.args.scratch.now in
    let sent = c.push_reply.new.sent in
    let a = c.take-answered.result in
    subst (λ (p : Plan). IsAnsweredPlan s c.args.votes c.args.core.now x (record x { plan = p; sent = sent }))
    (sym c.plan_with-scratch.ensures)
    (answered_planned s c.args.votes c.args.core.now x sent c.requires.may c.requires.apart
    (c.in_ok-push_reply.ensures.ok
    ∙ ap (λ (os : List Outgoing). os ++ reply_letters c.client_of.result.0 a) c.in_ok-push_releases.ensures
    ∙ ap (λ (to : ActorNo). x.sent ++ release_letters s a ++ reply_letters to.0 a) c.client_of.ensures
    ∙ ap (λ (b : Option Answered). x.sent ++ release_letters s b ++ reply_letters (client_of s) b)
    c.take-answered.ensures.value))
