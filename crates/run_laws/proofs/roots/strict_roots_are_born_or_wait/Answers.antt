use Rattle.run_laws.proofs.keeping.BornOrWaits.{all_born_or_wait}
use Rattle.run_laws.proofs.roots.strict_roots_are_born_or_wait.Goals as goal

pub returns : goal.returns
returns c = λ s past valid run. all_born_or_wait s past valid run
