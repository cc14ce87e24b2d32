use Rattle.run_laws.proofs.worth.WritersFirst.{writers_first}
use Rattle.run_laws.proofs.stays.writers_come_before_reads.Goals as goal

pub returns : goal.returns
returns c = writers_first
