use Rattle.history_audit.proofs.Taken.{one_taken}
use Rattle.history_audit.proofs.laws.an_accepted_text_is_one_history.Goals as goal

pub returns : goal.returns
returns c = λ s text valid h g. one_taken s text h g valid
