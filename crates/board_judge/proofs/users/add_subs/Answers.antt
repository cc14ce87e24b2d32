use Rattle.std.proofs.Common.{subst, List}
use Rattle.script_parts.specs.declared.parts.SubOp.{SubOp}
use Rattle.board_judge.specs.inside.Users.{HasMore, ops_users}
use Rattle.board_judge.proofs.Listing.{more_first, subs_on}
use Rattle.board_judge.proofs.users.add_subs.Goals as goal

pub loop-k-init : goal.loop-k-init
loop-k-init c = more_first c.args.users.now.items

pub loop-k-preserved : goal.loop-k-preserved
loop-k-preserved c =
    let sub = c.index-subs-k.result in
    subs_on c.args.tree.0 c.loop-k.k c.args.subs.now sub c.args.users.now.items c.loop-k.users.items c.add_ops.new.users.items
    c.loop-k-test.true c.index-subs-k.is c.loop-k.invariant
    (subst (λ (os : List SubOp). HasMore (λ x. ops_users c.args.tree.0 c.loop-k.k x os) c.loop-k.users.items c.add_ops.new.users.items) c.items.ensures.items c.in_ok-add_ops.ensures)
