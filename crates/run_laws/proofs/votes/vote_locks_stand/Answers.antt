use Rattle.run_laws.proofs.strict.VoteLocks.{vote_locks_stand}
use Rattle.run_laws.proofs.votes.vote_locks_stand.Goals as goal

pub returns : goal.returns
returns c = vote_locks_stand
