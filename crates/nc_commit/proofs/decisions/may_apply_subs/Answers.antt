use Rattle.std.proofs.Common.{Bool, List, ap, sym, ◌∙◌}
use Rattle.tx_trees.specs.declared.parts.SubOp.{SubOp}
use Rattle.nc_commit.specs.Decisions.{can_apply}
use Rattle.nc_commit.proofs.Staging.{passes, skips, stops}
use Rattle.nc_commit.proofs.decisions.may_apply_subs.Goals.{else-sub-node-via-then-sub-node+else-not-may_apply_ops, else-sub-node-via-else-sub-node}
use Rattle.nc_commit.proofs.decisions.may_apply_subs.Goals as goal

pub returns-then-not-may_apply_ops : goal.returns-then-not-may_apply_ops
returns-then-not-may_apply_ops c =
    let can : List SubOp → Bool = λ os. can_apply c.args.v os c.args.items.now in
    stops c.args.v c.args.node.0 c.args.subs.now c.loop-sub.sub-index c.sub-item.result c.args.items.now
    c.loop-sub-test.true c.sub-item.is c.if-sub-node.true
    (sym (ap can c.items.ensures.items) ∙ sym c.may_apply_ops.ensures ∙ c.if-not-may_apply_ops.true)
    c.loop-sub.invariant

pub loop-sub-preserved : goal.loop-sub-preserved
loop-sub-preserved c =
    let can : List SubOp → Bool = λ os. can_apply c.args.v os c.args.items.now in
    elim c.else-sub-node.branch [
      | else-sub-node-via-then-sub-node+else-not-may_apply_ops w ↦
          passes c.args.v c.args.node.0 c.args.subs.now c.loop-sub.sub-index c.sub-item.result c.args.items.now
          c.loop-sub-test.true c.sub-item.is w.if-sub-node.true
          (sym (ap can w.items.ensures.items) ∙ sym w.may_apply_ops.ensures ∙ w.if-not-may_apply_ops.false)
          c.loop-sub.invariant
      | else-sub-node-via-else-sub-node w ↦
          skips c.args.v c.args.node.0 c.args.subs.now c.loop-sub.sub-index c.sub-item.result c.args.items.now
          c.loop-sub-test.true c.sub-item.is w.if-sub-node.false c.loop-sub.invariant
    ]
