use Rattle.headline.proofs.Emptied.{ended_past}
use Rattle.headline.proofs.promise.every_run_without_letters_has_ended.Goals as goal

pub returns : goal.returns
returns c = ended_past
