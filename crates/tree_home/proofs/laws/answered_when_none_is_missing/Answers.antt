use Rattle.tree_home.proofs.Always.{answered-exactly, answer-is, gathered-in_order}
use Rattle.tree_home.proofs.laws.answered_when_none_is_missing.Goals as goal

pub returns : goal.returns
returns c = record {
  exactly = answered-exactly;
  answer = answer-is;
  order = gathered-in_order;
}
