use Rattle.std.proofs.Common.{◌≡◌, drop, IsTrue}
use Rattle.board_model.specs.inside.May.{all_ops_may}
use Rattle.board_model.specs.Balances.{all_after_ops}
use Rattle.board_model.proofs.balances.all_after_ops.Given as goal

abbrev pub invariant-loop-op : goal.invariant-loop-op
invariant-loop-op l = record {
  values : all_after_ops (drop l.op-index l.ops) l.values ≡ all_after_ops l.ops l.initial.values;
  may : IsTrue (all_ops_may (drop l.op-index l.ops) l.values);
}
