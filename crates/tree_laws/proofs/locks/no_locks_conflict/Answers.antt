use Rattle.tree_laws.proofs.conflicts.NoConflicts.{runs_apart}
use Rattle.tree_laws.proofs.locks.no_locks_conflict.Goals as goal

pub returns : goal.returns
returns c = runs_apart
