use Rattle.advance_laws.proofs.phases.Levels.{versions_in_phase}
use Rattle.run_laws.proofs.each_tree.EveryApt.{all_apt, lawful}
use Rattle.run_laws.proofs.phases.versions_keep_to_the_phase.Goals as goal

pub returns : goal.returns
returns c = λ s past valid keeps run. versions_in_phase s past (lawful s valid keeps) run (all_apt s past valid run)
