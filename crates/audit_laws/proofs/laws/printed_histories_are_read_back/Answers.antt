use Rattle.audit_laws.proofs.laws.printed_histories_are_read_back.Goals as goal

pub returns : goal.returns
returns c = c.printed_runs_are_read_back.ensures c.args.script.now c.args.history.now c.requires c.runs_are_printable.ensures
