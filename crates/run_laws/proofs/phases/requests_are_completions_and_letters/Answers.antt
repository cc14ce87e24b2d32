use Rattle.run_laws.proofs.each_tree.InTime.{balanced_run}
use Rattle.run_laws.proofs.phases.requests_are_completions_and_letters.Goals as goal

pub returns : goal.returns
returns c = λ s past valid run. balanced_run s past valid run
