use Rattle.run_laws.proofs.worth.CommittedGets.{gets_are_the_fold}
use Rattle.run_laws.proofs.committed.committed_gets_are_the_fold_before.Goals as goal

pub returns : goal.returns
returns c = gets_are_the_fold
