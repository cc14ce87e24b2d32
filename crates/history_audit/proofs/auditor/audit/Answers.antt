use Rattle.std.proofs.Common.{ℕ, ◌++◌, ◌∷◌, [], ◌∙◌, ap, subst, sym}
use Rattle.std.specs.Prelude.{Result}
use Rattle.std.proofs.lemmas.Result.{err_from_is_err_and}
use Rattle.board_judge.specs.Judged.{JudgeData}
use Rattle.history_reader.specs.Walks.{WalkData}
use Rattle.history_audit.specs.Audited.{IsAudited}
use Rattle.history_audit.specs.declared.auditor.AuditRefusal.{AuditRefusal}
use Rattle.history_audit.specs.inside.Auditing.{IsUnderAudit}
use Rattle.history_audit.proofs.Auditing.{ended}
use Rattle.history_audit.proofs.auditor.audit.Goals as goal

pub returns-in_err-take_next : goal.returns-in_err-take_next
returns-in_err-take_next c =
    let p = err_from_is_err_and c.from_residual-in_err-take_next.result c.from_residual-in_err-take_next.ensures.1 in
    rw (p.1, p.2) (c.in_err-take_next.ensures.refused c.args.script.now c.args.text.now c.loop-walk.invariant.0 c.loop-walk.invariant.1)

pub loop-walk-preserved : goal.loop-walk-preserved
loop-walk-preserved c =
    let h = c.loop-walk.invariant.0 in
    let more = c.in_ok-take_next.ensures.more c.if-branch.true c.args.script.now c.args.text.now h c.loop-walk.invariant.1 in
    (h ++ more.0 ∷ [], more.1)

pub returns : goal.returns
returns c =
    let s = c.args.script.now in
    let text = c.args.text.now in
    let h = c.loop-walk.invariant.0 in
    let here = subst (λ (j : JudgeData). IsUnderAudit s text h c.take_next.new.walk j) (sym (c.in_ok-take_next.ensures.judge c.if-branch.false))
    (subst (λ (w : WalkData). IsUnderAudit s text h w c.loop-walk.judge) (sym (c.in_ok-take_next.ensures.walk c.if-branch.false)) c.loop-walk.invariant.1) in
    let none = ap (λ (w : WalkData). w.rest) (c.in_ok-take_next.ensures.walk c.if-branch.false) ∙ c.in_ok-take_next.ensures.end c.if-branch.false in
    subst (λ (r : Result ℕ AuditRefusal). IsAudited s text r) (sym c.end.ensures)
    (ended s text h c.take_next.new.walk c.take_next.new.judge here c.count.result c.is_finished.result none c.count.ensures.count
    (c.is_finished.ensures h here.taken))
