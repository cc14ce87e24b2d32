use Rattle.audit_laws.proofs.Accepted.{printed_read}
use Rattle.audit_laws.proofs.laws.printed_runs_are_read_back.Goals as goal

pub returns : goal.returns
returns c = printed_read
