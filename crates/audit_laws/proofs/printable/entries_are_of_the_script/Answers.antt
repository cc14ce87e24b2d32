use Rattle.audit_laws.proofs.EveryEntry.{run_of_script}
use Rattle.audit_laws.proofs.printable.entries_are_of_the_script.Goals as goal

pub returns : goal.returns
returns c = run_of_script
