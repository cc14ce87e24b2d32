use Rattle.std.proofs.Common.{arith}
use Rattle.script_gen.specs.Generated.{generated_tree}
use Rattle.script_gen.proofs.Behind.{few_behind}
use Rattle.script_gen.proofs.Trees.{room}
use Rattle.script_gen.proofs.trees_made.add_trees.Goals as goal

pub add_tree-requires : goal.add_tree-requires
add_tree-requires c = room c.args.seed c.loop-j.j c.loop-j.script (omega arith) c.loop-j.invariant.made

pub add_behind-requires-clause-few : goal.add_behind-requires-clause-few
add_behind-requires-clause-few c =
    few_behind c.args.seed c.loop-j.j c.loop-j.script c.add_tree.new.script (generated_tree c.loop-j.j c.loop-j.number) (omega arith) c.loop-j.invariant.made c.in_ok-number.ensures.made
