use Rattle.std.proofs.Common.{◌≡◌, take}
use Rattle.pair_counters.specs.Rows.{counts_of}
use Rattle.tree_step.proofs.Asking.{with_asked}
use Rattle.tree_step.proofs.doing.ask_each.Given as goal

-- the nodes so far are counted, and nothing else
abbrev pub invariant-loop-node : goal.invariant-loop-node
invariant-loop-node l = counts_of l.counters ≡ with_asked l.v.0 (take l.node-index l.nodes) (counts_of l.initial.counters)
