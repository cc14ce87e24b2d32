use Rattle.tree_step.proofs.asked.plan_tree.Goals as goal

pub returns-in-Root-clause-part : goal.returns-in-Root-clause-part
returns-in-Root-clause-part c = rw c.in-Root.is c.plan_root.ensures.part

pub returns-in-Sub-clause-part : goal.returns-in-Sub-clause-part
returns-in-Sub-clause-part c = rw c.in-Sub.is c.plan_sub.ensures.part
