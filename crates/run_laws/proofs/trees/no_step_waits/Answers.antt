use Rattle.run_laws.proofs.keeping.AtOnce.{all_at_once}
use Rattle.run_laws.proofs.trees.no_step_waits.Goals as goal

pub returns : goal.returns
returns c = λ s past valid run. all_at_once s past valid run
