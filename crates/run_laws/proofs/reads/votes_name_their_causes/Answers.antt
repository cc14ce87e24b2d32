use Rattle.run_laws.proofs.strict.VoteCauses.{names_causes}
use Rattle.run_laws.proofs.reads.votes_name_their_causes.Goals as goal

pub returns : goal.returns
returns c = names_causes
