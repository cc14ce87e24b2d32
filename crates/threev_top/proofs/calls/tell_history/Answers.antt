use Rattle.std.proofs.Common.{◌∙◌, subst, List, ℕ}
use Rattle.threev_top.specs.Calls.{Tells}
use Rattle.threev_top.proofs.calls.tell_history.Goals as goal

pub returns-in-Ok-clause-told : goal.returns-in-Ok-clause-told
returns-in-Ok-clause-told g c =
    subst (λ (line : List ℕ). Tells (g.E.Sink.written c.args.err.now) (g.E.Sink.written c.tell_line.new.err) (g.E.Sink.faults c.args.err.now) (g.E.Sink.faults c.tell_line.new.err) line)
    (c.as_bytes.ensures.value ∙ c.in-Ok.ensures) c.tell_line.ensures
