use Rattle.advance_laws.proofs.phases.Small.{advances_kept}
use Rattle.run_laws.proofs.each_tree.EveryApt.{all_apt, lawful}
use Rattle.run_laws.proofs.phases.advances_are_kept.Goals as goal

pub returns : goal.returns
returns c = λ s past valid keeps run. advances_kept s past (lawful s valid keeps) run (all_apt s past valid run)
