use Rattle.tree_laws.proofs.conflicts.RunLocks.{run_locks}
use Rattle.tree_laws.proofs.locks.locks_of_runs.Goals as goal

pub returns : goal.returns
returns c = run_locks
