use Rattle.tree_home.proofs.Always.{begun-others, noted-others, forgotten-others}
use Rattle.tree_home.proofs.laws.other_trees_stay.Goals as goal

pub returns : goal.returns
returns c = record {
  begun = begun-others;
  noted = noted-others;
  forgotten = forgotten-others;
}
