use Rattle.tree_home.proofs.Holding.{holding-others, acked-others}
use Rattle.tree_home.proofs.laws.other_answers_stay.Goals as goal

pub returns : goal.returns
returns c = record {
  holding = holding-others;
  acked = acked-others;
}
