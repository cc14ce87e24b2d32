use Rattle.std.proofs.Common.{◌≡◌, map, take}
use Rattle.nc_locks.specs.Locks.{marks_on}
use Rattle.tx_trees.specs.declared.parts.SubOp.{SubOp}
use Rattle.node_machine.proofs.updates.push_marks.Given as goal

-- the marks of the operations so far
abbrev pub invariant-loop-op : goal.invariant-loop-op
invariant-loop-op l = l.wanted ≡ marks_on (map (λ (o : SubOp). o.item) (take l.op-index l.ops))
