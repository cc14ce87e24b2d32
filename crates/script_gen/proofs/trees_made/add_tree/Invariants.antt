use Rattle.std.proofs.Common.{◌≡◌}
use Rattle.script_gen.specs.Draws.{after_draws}
use Rattle.tv_base.specs.Draws.{next_draw}
use Rattle.script_gen.specs.Generated.{tree_with}
use Rattle.script_gen.specs.inside.Within.{with_begun}
use Rattle.script_gen.proofs.trees_made.add_tree.Given as goal

abbrev pub invariant-loop-k : goal.invariant-loop-k
invariant-loop-k l = record {
  made : l.script ≡ with_begun l.fn.script l.j (tree_with l.j l.first l.k);
  number : l.number ≡ after_draws l.k (next_draw l.first);
}
