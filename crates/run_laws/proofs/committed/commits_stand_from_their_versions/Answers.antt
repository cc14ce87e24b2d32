use Rattle.run_laws.proofs.strict.CommitsStand.{commits_stand}
use Rattle.run_laws.proofs.committed.commits_stand_from_their_versions.Goals as goal

pub returns : goal.returns
returns c = commits_stand
