use Rattle.run_laws.proofs.worth.ShownStays.{shown_stays}
use Rattle.run_laws.proofs.stays.what_reads_show_stays.Goals as goal

pub returns : goal.returns
returns c = shown_stays
