use Rattle.std.proofs.Common.{◌≡◌, ◌++◌, ◌∷◌, [], ◌∙◌, ap, subst, sym}
use Rattle.tv_base.specs.declared.numbers.NodeNo.{NodeNo}
use Rattle.letter_types.specs.declared.acts.Act.TheVariants.{Applied}
use Rattle.letter_types.specs.declared.bodies.Body.TheVariants.{Decided}
use Rattle.letter_types.specs.declared.entries.Outgoing.{Outgoing}
use Rattle.tree_step.proofs.Rooted.{home_there}
use Rattle.tree_step.specs.Meant.{core_meant}
use Rattle.tree_step.specs.declared.plan.Doing.{Doing}
use Rattle.tree_step.specs.declared.plan.HoldPlan.TheVariants.{Stay}
use Rattle.tree_step.specs.declared.plan.Plan.{Plan}
use Rattle.tree_step.specs.declared.plan.Scratch.{Scratch}
use Rattle.tree_step.specs.declared.plan.VotePlan.TheVariants.{Free}
use Rattle.node_machine.proofs.tree_rows.DecisionApplied.{decide_plan, decide_step}
use Rattle.node_machine.specs.Answering.{IsDecideStep}
use Rattle.node_machine.specs.inside.Decided.{plan_with}
use Rattle.node_machine.proofs.decisions.plan_decide.Goals as goal

pub returns : goal.returns
returns c =
    let s = c.args.came.now.script.now in
    let n = c.args.core.now in
    let l = c.args.came.now.letter.now in
    let d = c.args.decision in
    let from : NodeNo = record { 0 = l.from.0 } in
    let letter : Outgoing = record { to = record { 0 = c.home_of.result }; body = Decided d.tree d.version } in
    let home = home_there s d.tree.0 c.subs_of-subs.result.now c.subs_of-subs.ensures.subs c.subs_of-subs.ensures.nodes
    c.requires.there in
    let y : Scratch = record c.args.scratch.now {
      staged = c.stage_decided.new.staged;
      sent = c.push.new.self;
      acts = c.push-2.new.self;
    } in
    let same : c.plan_with-scratch.result ≡ decide_plan d.tree from d.version =
    c.plan_with-scratch.ensures ∙ ap (λ (doing : Doing). plan_with doing (Free d.tree) Stay) c.completing-doing.ensures in
    subst (λ (p : Plan). IsDecideStep s l d n (core_meant p y)) (sym same)
    (decide_step s l.to.0 from d.tree d.version d.commit n y c.home_of.result c.requires.ready c.requires.near
    c.count-count.ensures.held c.in_ok-stage_decided.ensures c.home_of.ensures home
    (c.in_ok-push.ensures.ok ∙ ap (λ (x : Scratch). x.sent ++ letter ∷ []) c.requires.empty)
    (c.in_ok-push-2.ensures.ok ∙ ap (λ (x : Scratch). x.acts ++ Applied d.tree d.commit ∷ []) c.requires.empty))
