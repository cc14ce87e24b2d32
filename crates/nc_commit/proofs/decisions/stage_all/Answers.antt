use Rattle.item_versions.specs.Table.{pending}
use Rattle.nc_commit.proofs.Staging.{staged_at}
use Rattle.nc_commit.proofs.decisions.stage_all.Goals as goal

pub loop-op-preserved : goal.loop-op-preserved
loop-op-preserved c =
    staged_at c.args.v c.args.ops.now c.loop-op.op-index _ (pending c.loop-op.staged c.args.items.now)
    (pending c.stage_op.new.staged c.args.items.now) c.args.items.now c.loop-op-test.true c.loop-op.invariant
    c.in_ok-stage_op.ensures
