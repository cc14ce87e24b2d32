use Rattle.run_laws.proofs.worth.Right.{right_run}
use Rattle.run_laws.proofs.reads.reads_and_votes_are_right.Goals as goal

pub returns : goal.returns
returns c = right_run
