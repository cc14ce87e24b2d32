use Rattle.std.proofs.Common.{◌≡◌, ◌+◌}
use Rattle.pair_counters.specs.Numbers.{from_version}
use Rattle.pair_counters.specs.Rows.{asked_in, done_in}
use Rattle.pair_counters.proofs.counters.keep_from.Given as goal

-- the first k versions from low on are dropped
abbrev pub invariant-loop-k : goal.invariant-loop-k
invariant-loop-k l = record {
  asked : asked_in l.fn.low.0 l.rows ≡ from_version (l.fn.low.0 + l.k) (asked_in l.fn.low.0 l.initial.rows);
  done : done_in l.fn.low.0 l.rows ≡ from_version (l.fn.low.0 + l.k) (done_in l.fn.low.0 l.initial.rows);
}
