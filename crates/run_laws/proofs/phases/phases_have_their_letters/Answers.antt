use Rattle.advance_laws.proofs.phases.Levels.{letters_in_phase}
use Rattle.run_laws.proofs.each_tree.EveryApt.{all_apt, lawful}
use Rattle.run_laws.proofs.phases.phases_have_their_letters.Goals as goal

pub returns : goal.returns
returns c = λ s past valid keeps run. letters_in_phase s past (lawful s valid keeps) run (all_apt s past valid run)
