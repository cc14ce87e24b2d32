use Rattle.board_judge.proofs.Listing.{more_first, ops_on}
use Rattle.board_judge.proofs.users.add_ops.Goals as goal

pub loop-op-init : goal.loop-op-init
loop-op-init c = more_first c.args.users.now.items

pub loop-op-preserved : goal.loop-op-preserved
loop-op-preserved c =
    ops_on c.args.tree.0 c.args.sub.0 c.lock_mode-mode.result c.loop-op.op-index c.args.ops.now _ c.args.users.now.items c.loop-op.users.items
    c.add_user.new.users.items c.loop-op-test.true c.lock_mode-mode.ensures c.loop-op.invariant c.in_ok-add_user.ensures
