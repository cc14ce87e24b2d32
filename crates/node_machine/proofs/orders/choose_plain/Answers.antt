use Rattle.std.proofs.Common.{subst, sym}
use Rattle.letter_types.specs.declared.bodies.Body.{Body}
use Rattle.tree_step.specs.Changes.{IsNodeStepOf}
use Rattle.tree_step.specs.Meant.{parts_meant}
use Rattle.tree_step.specs.Node.{data_of}
use Rattle.node_machine.specs.Orders.{ordered_row}
use Rattle.node_machine.proofs.coordinator_rows.OrderOfCore.{plain_far, plain_plan}
use Rattle.node_machine.proofs.orders.choose_plain.Goals as goal

pub returns-then-not-can_obey : goal.returns-then-not-can_obey
returns-then-not-can_obey c =
    plain_far c.args.came.now.script.now c.args.came.now.letter.now c.args.core.now c.args.what c.args.version c.requires.body
    (sym c.if-not-can_obey.ensures)

pub returns : goal.returns
returns c =
    let s = c.args.came.now.script.now in
    let n = c.args.core.now in
    let x = c.plan_order.new.scratch in
    let step = subst (λ (answer : Body). IsNodeStepOf (ordered_row s c.args.what c.args.version answer (data_of n.parts))
    n.parts (parts_meant c.in_ok-doing.doing x)) c.plain_answer-answer.ensures c.in_ok-doing.ensures.step in
    plain_plan s c.args.came.now.letter.now n c.args.what c.args.version c.in_ok-doing.doing x c.plan_of-scratch.result c.requires.body
    c.requires.ready (sym c.if-not-can_obey.ensures) step c.plan_of-scratch.ensures
