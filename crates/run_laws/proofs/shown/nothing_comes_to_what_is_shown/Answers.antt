use Rattle.run_laws.proofs.each_tree.Closed.{shown_is_closed}
use Rattle.run_laws.proofs.shown.nothing_comes_to_what_is_shown.Goals as goal

pub returns : goal.returns
returns c = λ s past later valid run. shown_is_closed s past later valid run
