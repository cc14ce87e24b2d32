use Rattle.std.proofs.Common.{◌≡◌, ◌+◌, ◌≤◌, length}
use Rattle.std.specs.Prelude.{vec_capacity}
use Rattle.node_threads.proofs.finishing.closed_again.Given as goal

abbrev pub invariant-loop-cell : goal.invariant-loop-cell
invariant-loop-cell g l = record {
  count : length l.closed.items + length l.cell-iterator.rest.items ≡ length l.fn.cells.items;
  room : length l.fn.cells.items ≤ vec_capacity l.closed;
}
