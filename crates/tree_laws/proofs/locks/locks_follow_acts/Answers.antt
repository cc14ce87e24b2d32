use Rattle.tree_laws.proofs.conflicts.ByActs.{locks_follow_acts}
use Rattle.tree_laws.proofs.locks.locks_follow_acts.Goals as goal

pub returns : goal.returns
returns c = locks_follow_acts
