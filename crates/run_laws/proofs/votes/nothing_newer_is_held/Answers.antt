use Rattle.run_laws.proofs.items.Newest.{newest_under_holds}
use Rattle.run_laws.proofs.votes.nothing_newer_is_held.Goals as goal

pub returns : goal.returns
returns c = newest_under_holds
