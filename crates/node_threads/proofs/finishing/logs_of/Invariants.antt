use Rattle.std.proofs.Common.{◌≡◌, ◌+◌, ◌++◌, ◌≤◌, length, map}
use Rattle.std.specs.Prelude.{vec_capacity}
use Rattle.node_threads.specs.Cells.{cell_data}
use Rattle.node_threads.proofs.finishing.logs_of.Given as goal

abbrev pub invariant-loop-cell : goal.invariant-loop-cell
invariant-loop-cell g l = record {
  same : map (λ x. cell_data x.number x.entries) l.logs.items ++ l.cell-iterator.rest.items ≡ l.fn.cells.items;
  count : length l.logs.items + length l.cell-iterator.rest.items ≡ length l.fn.cells.items;
  room : length l.fn.cells.items ≤ vec_capacity l.logs;
}
