use Rattle.headline.proofs.Promised.{headline}
use Rattle.headline.proofs.promise.every_finished_run_has_the_headline.Goals as goal

pub returns : goal.returns
returns c = headline
