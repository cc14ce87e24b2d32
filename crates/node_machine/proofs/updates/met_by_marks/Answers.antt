use Rattle.std.proofs.Common.{refl, ap, sym, ◌∙◌, List}
use Rattle.std.proofs.lemmas.List.{drop_all}
use Rattle.nc_locks.specs.Locks.{met_in}
use Rattle.tx_trees.specs.declared.parts.SubOp.{SubOp}
use Rattle.node_machine.specs.Meeting.{op_marks}
use Rattle.node_machine.proofs.tree_rows.DeferredSubs.{met_found, met_passed}
use Rattle.node_machine.proofs.updates.met_by_marks.Goals as goal

pub loop-op-init : goal.loop-op-init
loop-op-init c = refl

pub returns-in-Some : goal.returns-in-Some
returns-in-Some c =
    met_found c.args.tree c.args.ops.now c.loop-op.op-index _ c.args.locks.now c.met.result c.in-Some.met
    c.loop-op-test.true c.met.ensures.met c.in-Some.is c.loop-op.invariant

pub loop-op-preserved : goal.loop-op-preserved
loop-op-preserved c =
    met_passed c.args.tree c.args.ops.now c.loop-op.op-index _ c.args.locks.now c.met.result
    c.loop-op-test.true c.met.ensures.met c.in_default.is c.loop-op.invariant

pub returns : goal.returns
returns c =
    sym (c.loop-op.invariant
    ∙ ap (λ (os : List SubOp). met_in c.args.tree (op_marks os) c.args.locks.now)
    (drop_all c.loop-op.op-index c.args.ops.now c.loop-op-test.false))
