use Rattle.advance_laws.proofs.phases.Small.{rounds_by_trees}
use Rattle.run_laws.proofs.each_tree.EveryApt.{all_apt, lawful}
use Rattle.run_laws.proofs.phases.rounds_are_few.Goals as goal

pub returns : goal.returns
returns c = λ s past valid keeps run. rounds_by_trees s past (lawful s valid keeps) run (all_apt s past valid run)
