use Rattle.std.proofs.Common.{◌≡◌, ◌∙◌, ap, sym, true, false}
use Rattle.worth_steps.specs.inside.Editing.{stands_before, step_begun, steps_up_to}
use Rattle.worth_steps.proofs.Placing.{ascends_as, noted_new, noted_there}
use Rattle.worth_steps.proofs.steps.note_step.Goals as goal

pub returns-then-stands_before-clause-ok : goal.returns-then-stands_before-clause-ok
returns-then-stands_before-clause-ok c = λ up chain.
    let ss = c.args.steps.now.items in
    let v = c.args.version.0 in
    let place = c.steps_up_to-place.result in
    let is : place ≡ steps_up_to v ss
    = c.steps_up_to-place.ensures.place (ascends_as ss c.deref.result.now (sym c.deref.ensures.value) up) ∙ ap (steps_up_to v) c.deref.ensures.value in
    let stands : stands_before place v ss ≡ true
    = ap (stands_before place v) (sym c.deref-2.ensures.value) ∙ sym c.if-stands_before.ensures in
    noted_there c.args.start.kind c.args.start.first.now v c.args.deed.now ss c.go_on.new.steps.items place up chain is stands c.in_ok-change.ensures.ok

pub returns-clause-ok : goal.returns-clause-ok
returns-clause-ok c = λ up chain.
    let ss = c.args.steps.now.items in
    let v = c.args.version.0 in
    let place = c.steps_up_to-place.result in
    let is : place ≡ steps_up_to v ss
    = c.steps_up_to-place.ensures.place (ascends_as ss c.deref.result.now (sym c.deref.ensures.value) up) ∙ ap (steps_up_to v) c.deref.ensures.value in
    let none : stands_before place v ss ≡ false
    = ap (stands_before place v) (sym c.deref-2.ensures.value) ∙ sym c.if-stands_before.ensures in
    let begun : c.in_ok-step.step ≡ step_begun v c.args.deed.now = rw c.in_ok-step.ensures.ok_part at c.step_begun.ensures in
    noted_new c.args.start.kind c.args.start.first.now v c.args.deed.now ss c.begin.new.steps.items c.in_ok-step.step place up chain is none begun c.in_ok-change-2.ensures.ok
