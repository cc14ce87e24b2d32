use Rattle.run_laws.proofs.each_tree.InTime.{given_run}
use Rattle.run_laws.proofs.shown.orders_are_given_in_quiet.Goals as goal

pub returns : goal.returns
returns c = λ s past e valid keeps run. given_run s past e valid keeps run
