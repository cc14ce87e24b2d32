use Rattle.node_machine.proofs.coordinator_rows.OrderOfCore.{other_plan}
use Rattle.node_machine.proofs.orders.choose_other.Goals as goal

pub returns : goal.returns
returns c =
    other_plan c.args.came.now.script.now c.args.came.now.letter.now c.args.core.now c.args.scratch.now c.requires.ready c.requires.other
    c.requires.empty
