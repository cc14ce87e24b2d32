use Rattle.std.proofs.Common.{◌≡◌, drop}
use Rattle.std.specs.Prelude.{◌↔◌}
use Rattle.node_threads.specs.Cells.{entries_in}
use Rattle.node_threads.proofs.finishing.have_together.Given as goal

abbrev pub invariant-loop-cell : goal.invariant-loop-cell
invariant-loop-cell g l = (l.left ≡ entries_in (drop l.cell-index l.cells)) ↔ (l.count ≡ entries_in l.cells)
