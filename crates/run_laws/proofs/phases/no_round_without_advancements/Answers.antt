use Rattle.run_laws.proofs.ending.NoRounds.{no_rounds}
use Rattle.run_laws.proofs.phases.no_round_without_advancements.Goals as goal

pub returns : goal.returns
returns c = no_rounds
