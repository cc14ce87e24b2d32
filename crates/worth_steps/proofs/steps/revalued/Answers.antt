use Rattle.std.proofs.Common.{◌≡◌, ◌∙◌, ◌+◌, ◌++◌, ap, sym, subst, length, List, drop}
use Rattle.worth_steps.specs.declared.steps.WorthStep.{WorthStep}
use Rattle.worth_steps.specs.inside.Editing.{number_below, revalued}
use Rattle.worth_steps.proofs.Revaluing.{one_more}
use Rattle.worth_steps.proofs.steps.revalued.Goals as goal

pub loop-step-preserved : goal.loop-step-preserved
loop-step-preserved c =
    let k = c.args.kind in
    let below = c.args.below.now in
    let ss = c.args.steps.now in
    let made = c.loop-step.made.items in
    let y = c.in_ok-next.next in
    let i = c.loop-step.step-index in
    let there = c.in_ok-next.ensures.ok_part in
    let valued = rw there at c.step_valued.ensures in
    let under = c.last_value.ensures ∙ ap (λ xs. number_below below (length xs) xs) c.deref.ensures.value in
    subst (λ (xs : List WorthStep). xs ++ revalued k (number_below below (length xs) xs) (drop (i + 1) ss) ≡ revalued k below ss) (sym c.in_ok-push.ensures.items)
    (one_more k below c.last_value.result.now i ss made (revalued k below ss) _ y c.loop-step-test.true under valued c.loop-step.invariant)
