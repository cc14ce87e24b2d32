use Rattle.std.proofs.Common.{sym}
use Rattle.node_machine.proofs.coordinator_rows.OrderOfCore.{far_order, old_order, order_plan}
use Rattle.node_machine.proofs.orders.choose_order.Goals as goal

pub returns-then-epoch-core : goal.returns-then-epoch-core
returns-then-epoch-core c =
    old_order c.args.came.now.script.now c.args.came.now.letter.now c.args.core.now c.args.order.epoch c.args.order.what c.args.order.version
    c.args.scratch.now c.requires.body c.requires.ready c.if-epoch-core.true c.requires.empty

pub returns-then-not-can_obey : goal.returns-then-not-can_obey
returns-then-not-can_obey c =
    far_order c.args.came.now.script.now c.args.came.now.letter.now c.args.core.now c.args.order.epoch c.args.order.what c.args.order.version
    c.requires.body c.if-epoch-core.false (sym c.if-not-can_obey.ensures)

pub returns : goal.returns
returns c =
    order_plan c.args.came.now.script.now c.args.came.now.letter.now c.args.core.now c.args.order.epoch c.args.order.what c.args.order.version
    c.in_ok-doing.doing c.plan_obeyed.new.scratch c.plan_of-scratch.result c.requires.body c.requires.ready
    c.if-epoch-core.false (sym c.if-not-can_obey.ensures) c.in_ok-doing.ensures.step c.plan_of-scratch.ensures
