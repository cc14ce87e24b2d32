use Rattle.std.proofs.Common.{◌≡◌, ◌++◌, drop}
use Rattle.board_model.specs.inside.Balances.{no_marks}
use Rattle.board_model.proofs.balances.no_marks.Given as goal

abbrev pub invariant-loop-item : goal.invariant-loop-item
invariant-loop-item l = l.marks ++ no_marks (drop l.item-index l.items) ≡ no_marks l.items
