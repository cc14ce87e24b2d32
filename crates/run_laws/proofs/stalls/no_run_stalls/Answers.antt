use Rattle.run_laws.proofs.ending.Ends.{no_run_stalls}
use Rattle.run_laws.proofs.stalls.no_run_stalls.Goals as goal

pub returns : goal.returns
returns c = λ s past valid run empty. no_run_stalls s past valid run empty
