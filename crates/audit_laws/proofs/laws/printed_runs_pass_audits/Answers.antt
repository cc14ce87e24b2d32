use Rattle.audit_laws.proofs.Audited.{run_passes}
use Rattle.audit_laws.proofs.laws.printed_runs_pass_audits.Goals as goal

pub returns : goal.returns
returns c = λ s h valid run finished may text read ends none.
    run_passes text s h read ends none (c.printed_runs_are_accepted.ensures s h valid run finished may)
