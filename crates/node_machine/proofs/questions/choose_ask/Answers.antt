use Rattle.std.proofs.Common.{subst}
use Rattle.letter_types.specs.declared.bodies.Body.{Body}
use Rattle.tree_step.specs.Changes.{IsNodeStepOf}
use Rattle.tree_step.specs.Meant.{parts_meant}
use Rattle.tree_step.specs.Node.{data_of}
use Rattle.node_machine.specs.Orders.{told_row}
use Rattle.node_machine.proofs.coordinator_rows.OrderOfCore.{ask_plan, old_ask}
use Rattle.node_machine.proofs.questions.choose_ask.Goals as goal

pub returns-then-epoch-core : goal.returns-then-epoch-core
returns-then-epoch-core c =
    let s = c.args.came.now.script.now in
    let n = c.args.core.now in
    let x = c.plan_told.new.scratch in
    let step = subst (λ (answer : Body). IsNodeStepOf (told_row s answer (data_of n.parts)) n.parts
    (parts_meant c.in_ok-told.told x)) c.numbers-answer.ensures c.in_ok-told.ensures.step in
    ask_plan s c.args.came.now.letter.now n c.args.epoch c.in_ok-told.told x c.plan_of-scratch.result c.requires.body
    c.requires.ready c.if-epoch-core.true step c.plan_of-scratch.ensures

pub returns : goal.returns
returns c =
    old_ask c.args.came.now.script.now c.args.came.now.letter.now c.args.core.now c.args.epoch c.args.scratch.now c.requires.body
    c.requires.ready c.if-epoch-core.false c.requires.empty
