use Rattle.tree_home.proofs.Holding.{held-there, acked-counts_down, last-sets_free, held-comes_back}
use Rattle.tree_home.proofs.laws.held_answers_come_and_go.Goals as goal

pub returns : goal.returns
returns c = record {
  there = held-there;
  fewer = acked-counts_down;
  last = last-sets_free;
  back = held-comes_back;
}
