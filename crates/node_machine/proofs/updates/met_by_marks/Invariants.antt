use Rattle.std.proofs.Common.{◌≡◌, drop}
use Rattle.nc_locks.specs.Locks.{met_in}
use Rattle.node_machine.specs.Meeting.{op_marks}
use Rattle.node_machine.proofs.updates.met_by_marks.Given as goal

-- what the operations meet, those that are left meet
abbrev pub invariant-loop-op : goal.invariant-loop-op
invariant-loop-op l = met_in l.tree (op_marks l.ops) l.locks ≡ met_in l.tree (op_marks (drop l.op-index l.ops)) l.locks
