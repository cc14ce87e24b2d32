use Rattle.std.proofs.Common.{◌≡◌, ◌++◌, drop}
use Rattle.world_model.specs.Reads.{can_get, gets}
use Rattle.tree_step.proofs.reads.get_values.Given as goal

abbrev pub invariant-loop-op : goal.invariant-loop-op
invariant-loop-op l = record {
  can : can_get l.v (drop l.op-index l.ops) l.items ≡ can_get l.v l.ops l.items;
  so_far : l.values ++ gets l.v (drop l.op-index l.ops) l.items ≡ gets l.v l.ops l.items;
}
