use Rattle.std.proofs.Common.{◌≡◌}
use Rattle.script_gen.specs.Generated.{after_trees}
use Rattle.script_gen.specs.inside.Within.{HasTrees}
use Rattle.script_gen.proofs.trees_made.add_trees.Given as goal

abbrev pub invariant-loop-j : goal.invariant-loop-j
invariant-loop-j l = record {
  made : HasTrees l.seed l.j l.script;
  number : l.number ≡ after_trees l.seed l.j;
}
