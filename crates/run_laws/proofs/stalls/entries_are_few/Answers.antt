use Rattle.run_laws.proofs.ending.Bounds.{entries_few}
use Rattle.run_laws.proofs.stalls.entries_are_few.Goals as goal

pub returns : goal.returns
returns c = λ s past valid run. entries_few s past valid run
