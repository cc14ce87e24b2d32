use Rattle.std.proofs.Common.{arith, subst, get_or, List}
use Rattle.script_parts.specs.declared.parts.SubOp.{SubOp}
use Rattle.script_parts.proofs.Lists.{cell_is}
use Rattle.script_parts.proofs.Loading.{OpsLoaded, op_has_room, rest_at}
use Rattle.script_parts.proofs.failing.load_ops.Goals as goal

pub overflow_add-index_mut : goal.overflow_add-index_mut
overflow_add-index_mut c =
    let was = c.args.totals.now.items in
    let now = c.loop-op.totals.items in
    let all = c.args.ops.now in
    let i = c.loop-op.op-index in
    let h = subst (λ (r : List SubOp). OpsLoaded was now all r) (rest_at all i _ c.loop-op-test.true) c.loop-op.invariant in
    let o : SubOp = get_or all i _ in
    let cell = cell_is now o.item.0 c.index_mut.result.now (omega (arith, h.within.0, h.len)) c.index_mut.ensures.value in
    omega (arith, op_has_room was now all _ o _ h c.requires.room, cell, c.magnitude.ensures)
