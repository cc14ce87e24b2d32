use Rattle.pair_counters.proofs.Rows.{counts-three}
use Rattle.pair_counters.proofs.laws.three_versions_are_counted.Goals as goal

pub returns : goal.returns
returns c = counts-three
