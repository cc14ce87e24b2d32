use Rattle.std.proofs.Common.{◌++◌, ◌∙◌, List, ap, subst, sym}
use Rattle.tv_base.specs.declared.numbers.NodeNo.{NodeNo}
use Rattle.letter_types.specs.declared.bodies.Body.TheVariants.{Decide}
use Rattle.tx_trees.specs.ScriptData.{visited_by}
use Rattle.world_model.specs.Strict.{to_each}
use Rattle.tree_step.specs.CoreChanges.{numbers_of_nodes}
use Rattle.tree_step.specs.declared.plan.Plan.{Plan}
use Rattle.node_machine.proofs.tree_rows.AnswerOrDecisionPlans.{decided_planned, deciding, undecided}
use Rattle.node_machine.specs.Answering.{IsDecidedPlan}
use Rattle.node_machine.proofs.answers.plan_decided.Goals as goal

pub returns-in_default : goal.returns-in_default
returns-in_default c =
    let s = c.args.script.now in
    let x = c.args.scratch.now in
    subst (λ (p : Plan). IsDecidedPlan s c.args.votes c.args.core.now x (record x { plan = p })) (sym c.plan_with-scratch.ensures)
    (undecided s c.args.votes c.args.core.now x c.requires.may c.requires.apart
    (sym c.take.ensures.value ∙ c.in_default.is))

pub returns : goal.returns
returns c =
    let s = c.args.script.now in
    let x = c.args.scratch.now in
    let a = c.in-Some.answered in
    let told = c.push_visited.new.told in
    let commit = c.commits-commit.result in
    let sent = c.push_decides.new.sent in
    let acts = c.push.new.self in
    subst (λ (p : Plan). IsDecidedPlan s c.args.votes c.args.core.now x (deciding x p a told sent acts))
    (sym c.plan_with-scratch-2.ensures)
    (decided_planned s c.args.votes c.args.core.now a commit x told sent acts c.requires.may c.requires.apart
    c.requires.decide (sym c.take.ensures.value ∙ c.in-Some.is)
    c.items.ensures.limit c.in_ok-push_visited.ensures.some c.commits-commit.ensures
    (c.in_ok-push_visited.ensures.nodes
    ∙ ap (λ (qs : List NodeNo). numbers_of_nodes qs ++ visited_by s a.tree.0) c.requires.none_told)
    (c.in_ok-push_decides.ensures ∙ ap (λ (qs : List NodeNo). x.sent
    ++ to_each (Decide a.tree a.version commit) (numbers_of_nodes qs)) c.items.ensures.items)
    c.in_ok-push.ensures.ok)
