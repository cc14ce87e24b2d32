use Rattle.std.proofs.Common.{drop}
use Rattle.std.specs.Prelude.{◌↔◌}
use Rattle.history_merge.specs.Merging.{NumberedBy}
use Rattle.node_threads.proofs.finishing.are_in_order.Given as goal

abbrev pub invariant-loop-place : goal.invariant-loop-place
invariant-loop-place g l = NumberedBy (λ c. c.number) l.place (drop l.place l.cells) ↔ NumberedBy (λ c. c.number) 0 l.cells
