use Rattle.script_gen.proofs.Behind.{few_in}
use Rattle.script_gen.proofs.generating.generate.Goals as goal

pub add_end-requires : goal.add_end-requires
add_end-requires c = few_in c.args.seed c.args.trees c.add_trees.new.script c.requires c.in_ok-add_trees.ensures
