use Rattle.run_laws.proofs.each_tree.Taken.{taken_run}
use Rattle.run_laws.proofs.phases.every_letter_taken_is_apt.Goals as goal

pub returns : goal.returns
returns c = λ s past valid run. taken_run s past valid run
