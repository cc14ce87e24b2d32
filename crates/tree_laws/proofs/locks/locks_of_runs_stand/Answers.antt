use Rattle.tree_laws.proofs.conflicts.AtHome.{locks_are_standing}
use Rattle.tree_laws.proofs.locks.locks_of_runs_stand.Goals as goal

pub returns : goal.returns
returns c = locks_are_standing
