use Rattle.tree_home.proofs.Holding.{holding-waits, acked-waits}
use Rattle.tree_home.proofs.laws.a_held_answer_waits.Goals as goal

pub returns : goal.returns
returns c = record {
  holding = holding-waits;
  acked = acked-waits;
}
