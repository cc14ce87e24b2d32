use Rattle.tree_laws.proofs.conflicts.RunConflicts.{runs_meet_conflicts}
use Rattle.tree_laws.proofs.locks.runs_meet_conflicts.Goals as goal

pub returns : goal.returns
returns c = runs_meet_conflicts
