use Rattle.std.proofs.Common.{ℕ, ◌+◌, ap, subst, sym}
use Rattle.std.specs.Prelude.{Err}
use Rattle.history_audit.specs.Audited.{IsAudited}
use Rattle.history_audit.specs.declared.auditor.AuditRefusal.{AuditRefusal}
use Rattle.history_audit.proofs.Auditing.{broken, goes_on, unread}
use Rattle.history_audit.proofs.auditor.take_next.Goals as goal

pub returns-in-Err-clause-refused : goal.returns-in-Err-clause-refused
returns-in-Err-clause-refused c = λ s text h a.
    subst (λ (r : AuditRefusal). IsAudited s text (Err r)) (sym c.unread.ensures)
    (unread s text h c.args.walk.now c.args.judge.now a c.in-Err.fault (c.count-number.result + 1)
    (ap (λ (n : ℕ). n + 1) c.count-number.ensures.count)
    (λ is. c.in-Err.ensures.text (ap Err is)) (λ is. c.in-Err.ensures.postal (ap Err is)))

pub returns-in-Ok-take-clause-more : goal.returns-in-Ok-take-clause-more
returns-in-Ok-take-clause-more c = λ more s text h a.
    let goes = rw c.in-Some.is at c.in-Ok.ensures.some in (
      c.in-Some.entry,
      goes_on s text h c.args.walk.now c.args.judge.now a c.next.new.self c.take.new.self c.in-Some.entry goes c.next.ensures.script
          c.take.ensures.script (c.in-Ok-take.ensures.ok h a.taken).1,
    )

pub returns-clause-refused : goal.returns-clause-refused
returns-clause-refused c = λ s text h a.
    let goes = rw c.in-Some.is at c.in-Ok.ensures.some in
    subst (λ (r : AuditRefusal). IsAudited s text (Err r)) (sym c.refusal.ensures)
    (broken s text h c.args.walk.now c.args.judge.now a c.next.new.self c.in-Some.entry c.in-Err-take.refused (c.count-number.result + 1) goes
    (ap (λ (n : ℕ). n + 1) c.count-number.ensures.count) c.in-Err-take.ensures.refused)
