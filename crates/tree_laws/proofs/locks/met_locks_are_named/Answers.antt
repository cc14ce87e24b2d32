use Rattle.tree_laws.proofs.conflicts.Conflicts.{met_is_conflict}
use Rattle.tree_laws.proofs.locks.met_locks_are_named.Goals as goal

pub returns : goal.returns
returns c = met_is_conflict
