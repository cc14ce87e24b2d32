use Rattle.run_laws.proofs.each_tree.InTime.{anew_run}
use Rattle.run_laws.proofs.shown.orders_are_given_before_or_in_quiet.Goals as goal

pub returns : goal.returns
returns c = λ s past e valid run. anew_run s past e valid run
