use Rattle.run_laws.proofs.keeping.SentFew.{answered_once}
use Rattle.run_laws.proofs.replies.trees_are_answered_once.Goals as goal

pub returns : goal.returns
returns c = answered_once
