use Rattle.std.proofs.Common.{◌∙◌, sym}
use Rattle.std.proofs.lemmas.Bool.{OnTrue_at}
use Rattle.letter_types.specs.declared.bodies.Notice.TheVariants.{Did}
use Rattle.item_versions.specs.Table.{pending}
use Rattle.tree_step.specs.Node.{Effect, data_of}
use Rattle.tree_step.proofs.Updated.{asked_within, touchable, updated}
use Rattle.tree_step.proofs.updates.plan_update.Goals as goal

pub stage_ops-requires-clause-near : goal.stage_ops-requires-clause-near
stage_ops-requires-clause-near c =
    let l = c.args.came.now.letter.now in
    asked_within c.args.came.now.script.now l.to.0 l.from.0 c.args.node.now l.body c.asked_version-version.result c.requires.ready
    c.requires.due c.asked_version-version.ensures

pub plan_tree-requires-clause-near : goal.plan_tree-requires-clause-near
plan_tree-requires-clause-near c =
    let l = c.args.came.now.letter.now in
    asked_within c.args.came.now.script.now l.to.0 l.from.0 c.args.node.now l.body c.asked_version-version.result c.requires.ready
    c.requires.due c.asked_version-version.ensures

pub returns-clause-can : goal.returns-clause-can
returns-clause-can c =
    sym c.if-not-branch.false ∙ c.in_ok-stage_ops.ensures.can
    ∙ touchable c.args.came.now.script.now c.args.came.now.letter.now.body (data_of c.args.node.now) c.asked_version-version.result
    c.asked_ops-ops.result.now c.asked_version-version.ensures c.asked_ops-ops.ensures

pub returns-clause-part : goal.returns-clause-part
returns-clause-part c =
    let l = c.args.came.now.letter.now in
    let n = c.args.node.now in
    let e : Effect = record { items = pending c.stage_ops.new.staged n.items; notice = Did c.new.result } in
    let made = OnTrue_at c.if-not-branch.false c.in_ok-stage_ops.ensures.after in
    record {
      row =
          updated c.args.came.now.script.now l.to.0 l.from.0 l.body (data_of n) c.asked_version-version.result
          c.asked_ops-ops.result.now c.is_above-raises.result e _ c.asked_version-version.ensures c.asked_ops-ops.ensures
          c.is_above-raises.ensures (λ i. record { items = made i; notice = Did (c.new.ensures i) })
          c.in_ok-plan_tree.ensures.part.row;
      may = c.in_ok-plan_tree.ensures.part.may;
      counted = c.in_ok-plan_tree.ensures.part.counted;
    }
