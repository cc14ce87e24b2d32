use Rattle.std.proofs.Common.{◌≡◌, drop}
use Rattle.board_model.specs.inside.Balances.{mark_ops}
use Rattle.board_model.proofs.balances.mark_ops.Given as goal

abbrev pub invariant-loop-op : goal.invariant-loop-op
invariant-loop-op l = mark_ops (drop l.op-index l.ops) l.marks ≡ mark_ops l.ops l.initial.marks
