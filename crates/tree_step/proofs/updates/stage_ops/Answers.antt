use Rattle.std.proofs.Common.{◌∙◌, sym, subst, arith}
use Rattle.std.proofs.lemmas.Bool.{OnTrue_at}
use Rattle.std.proofs.lemmas.Grind.{common_steps}
use Rattle.item_versions.specs.Table.{Table, IsHeldTable, pending}
use Rattle.item_versions.specs.Window.{IsWindowedTable}
use Rattle.item_versions.proofs.Holding.{IsHeldTable-touched_in}
use Rattle.item_versions.proofs.Window.{has_room_in-may_touch, IsWindowedTable-touched_in}
use Rattle.tree_step.proofs.updates.stage_ops.Goals as goal

pub stage_if_may-requires : goal.stage_if_may-requires
stage_if_may-requires c =
    λ may. has_room_in-may_touch c.args.node.now.turns.low.0 c.args.v _ c.in-Apply.change
    (pending c.loop-op.staged c.args.node.now.items)
    may c.loop-op.invariant.held c.loop-op.invariant.fits c.requires.near

pub loop-op-preserved : goal.loop-op-preserved
loop-op-preserved c =
    let may = sym c.in_ok-stage_if_may.ensures.may ∙ c.if-not-branch.false in
    let made = OnTrue_at c.if-not-branch.false c.in_ok-stage_if_may.ensures.made in
    record {
      can = grind (arith, common_steps);
      after = grind (arith, common_steps);
      held = subst (λ (t : Table). IsHeldTable t) (sym made)
          (IsHeldTable-touched_in c.args.v _ c.in-Apply.change (pending c.loop-op.staged c.args.node.now.items)
          c.loop-op.invariant.held);
      fits = subst (λ (t : Table). IsWindowedTable c.args.node.now.turns.low.0 t) (sym made)
          (IsWindowedTable-touched_in c.args.node.now.turns.low.0 c.args.v _ c.in-Apply.change
          (pending c.loop-op.staged c.args.node.now.items)
          c.loop-op.invariant.held c.loop-op.invariant.fits c.requires.near);
    }
