use Rattle.run_laws.proofs.strict.AllOrNone.{all_or_none}
use Rattle.run_laws.proofs.committed.committed_trees_are_all_or_none.Goals as goal

pub returns : goal.returns
returns c = all_or_none
