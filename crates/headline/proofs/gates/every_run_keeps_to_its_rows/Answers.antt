use Rattle.headline.proofs.Fitting.{fits_run}
use Rattle.headline.proofs.gates.every_run_keeps_to_its_rows.Goals as goal

pub returns : goal.returns
returns c = fits_run
