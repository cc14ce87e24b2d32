use Rattle.std.proofs.Common.{◌≡◌, ◌+◌, ◌≤◌, length}
use Rattle.std.specs.Prelude.{vec_capacity}
use Rattle.node_threads.proofs.finishing.opened.Given as goal

abbrev pub invariant-loop-padded : goal.invariant-loop-padded
invariant-loop-padded g l = record {
  count : length l.opened.items + length l.padded-iterator.rest.items ≡ length l.fn.cells.items;
  room : length l.fn.cells.items ≤ vec_capacity l.opened;
}
