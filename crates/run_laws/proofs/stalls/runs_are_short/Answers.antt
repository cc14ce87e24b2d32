use Rattle.run_laws.proofs.ending.Bounds.{entries_small}
use Rattle.run_laws.proofs.stalls.runs_are_short.Goals as goal

pub returns : goal.returns
returns c = λ s past valid run. entries_small s past valid run
