use Rattle.std.proofs.Common.{◌+◌, Some, subst, sym}
use Rattle.command_words.specs.declared.Line.{Line}
use Rattle.threev_top.specs.Calls.{most_bytes}
use Rattle.tv_base.specs.Outside.{HasTaken}
use Rattle.threev_top.proofs.making.made_by_line.Goals as goal

pub returns-in_ok-text-in-Audit-clause-taken : goal.returns-in_ok-text-in-Audit-clause-taken
returns-in_ok-text-in-Audit-clause-taken g c =
    subst (λ (l : Line). HasTaken (most_bytes (Some l) + 1) (g.S.Source.left c.args.source.now) (g.S.Source.left c.audit_source.new.source))
    (sym c.in-Audit.is) c.audit_source.ensures.taken
