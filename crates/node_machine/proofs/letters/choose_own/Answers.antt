use Rattle.std.proofs.Common.{refl}
use Rattle.node_machine.proofs.enabled.PlansByBody.{root_plan, sub_plan}
use Rattle.node_machine.proofs.letters.choose_own.Goals as goal

pub choose_tree-requires-clause-asks : goal.choose_tree-requires-clause-asks
choose_tree-requires-clause-asks c = rw c.in-Root.is refl

pub returns-in-Root : goal.returns-in-Root
returns-in-Root c =
    root_plan c.args.came.now.script.now c.args.came.now.letter.now c.args.core.now c.choose_tree.new.scratch c.in-Root.tree _ c.in-Root.is
    c.choose_tree.ensures

pub choose_tree-requires-in-Sub-clause-asks : goal.choose_tree-requires-in-Sub-clause-asks
choose_tree-requires-in-Sub-clause-asks c = rw c.in-Sub.is refl

pub returns-in-Sub : goal.returns-in-Sub
returns-in-Sub c =
    sub_plan c.args.came.now.script.now c.args.came.now.letter.now c.args.core.now c.choose_tree-in-Sub.new.scratch c.in-Sub.tree c.in-Sub.sub
    c.in-Sub.version _ c.in-Sub.is c.choose_tree-in-Sub.ensures
