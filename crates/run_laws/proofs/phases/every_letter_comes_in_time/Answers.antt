use Rattle.run_laws.proofs.each_tree.InTime.{every_in_time}
use Rattle.run_laws.proofs.phases.every_letter_comes_in_time.Goals as goal

pub returns : goal.returns
returns c = λ s past valid run. every_in_time s past valid run
