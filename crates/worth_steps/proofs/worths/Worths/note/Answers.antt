use Rattle.std.proofs.Common.{sym, subst, IsTrue}
use Rattle.worth_steps.specs.Kept.{AreWorths, WorthsData}
use Rattle.worth_steps.specs.Worth.{deed_suits}
use Rattle.worth_steps.proofs.Noting.{noted_get, noted_put, noted_step}
use Rattle.worth_steps.proofs.worths.Worths.note.Goals as goal

pub returns-then-not-alters-clause-noted : goal.returns-then-not-alters-clause-noted
returns-then-not-alters-clause-noted c = λ first ns are.
    noted_get first ns c.args.version.0 c.args.deed.now c.args.self.now (sym c.if-not-alters.ensures) are

pub returns-in_ok-place-in-Some-clause-noted : goal.returns-in_ok-place-in-Some-clause-noted
returns-in_ok-place-in-Some-clause-noted c = λ first ns are.
    let parts = c.self.inside in
    let suits = subst (λ (w : WorthsData). IsTrue (deed_suits w.kind c.args.deed.now)) (sym c.self.view_is) c.requires in
    noted_put first ns c.args.version.0 c.args.deed.now parts.kind parts.first parts.steps.items parts.puts.items c.note_put.new.puts.items c.in-Some.put
    suits c.in-Some.ensures c.in_ok-place-in-Some.ensures.ok
    (subst (AreWorths first ns) (sym c.self.view_is) are)

pub returns-in_ok-change-in-None-clause-noted : goal.returns-in_ok-change-in-None-clause-noted
returns-in_ok-change-in-None-clause-noted c = λ first ns are.
    let parts = c.self.inside in
    let suits = subst (λ (w : WorthsData). IsTrue (deed_suits w.kind c.args.deed.now)) (sym c.self.view_is) c.requires in
    noted_step first ns c.args.version.0 c.args.deed.now parts.kind parts.first parts.steps.items c.note_step.new.steps.items parts.puts.items
    suits (sym c.if-not-alters.ensures) c.in-None.ensures c.in_ok-change-in-None.ensures.ok
    (subst (AreWorths first ns) (sym c.self.view_is) are)
