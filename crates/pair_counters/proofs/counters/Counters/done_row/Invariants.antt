use Rattle.std.proofs.Common.{◌≡◌}
use Rattle.pair_counters.specs.Numbers.{numbers_of}
use Rattle.pair_counters.specs.Rows.{done_in}
use Rattle.pair_counters.proofs.counters.Counters.done_row.Given as goal

abbrev pub invariant-loop-node : goal.invariant-loop-node
invariant-loop-node l = l.row ≡ numbers_of l.node (done_in l.self-inside.low.0 l.self-inside.rows l.v.0)
