use Rattle.run_laws.proofs.ending.Bounds.{plain_most}
use Rattle.run_laws.proofs.stalls.plain_runs_have_fewer_entries.Goals as goal

pub returns : goal.returns
returns c = λ s none. plain_most s none
