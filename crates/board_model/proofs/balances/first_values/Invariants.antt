use Rattle.std.proofs.Common.{◌≡◌, ◌++◌, drop}
use Rattle.board_model.specs.Balances.{first_values}
use Rattle.board_model.proofs.balances.first_values.Given as goal

abbrev pub invariant-loop-item : goal.invariant-loop-item
invariant-loop-item l = l.values ++ first_values (drop l.item l.script.items) ≡ first_values l.script.items
