use Rattle.run_laws.proofs.each_tree.Closed.{shown_is_backed}
use Rattle.run_laws.proofs.shown.what_is_shown_is_whole.Goals as goal

pub returns : goal.returns
returns c = λ s past valid run. shown_is_backed s past valid run
