use Rattle.run_laws.proofs.ending.Entries.{entries_counted}
use Rattle.run_laws.proofs.stalls.entries_are_counted.Goals as goal

pub returns : goal.returns
returns c = λ s past valid keeps plain run empty. entries_counted s past valid keeps plain run empty
