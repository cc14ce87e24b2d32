use Rattle.std.proofs.Common.{◌≡◌, ◌∙◌, ◌+◌, List, ap, drop, length, rules}
use Rattle.std.proofs.lemmas.List.{take_rest}
use Rattle.worth_steps.specs.declared.steps.WorthStep.{WorthStep}
use Rattle.worth_steps.specs.inside.Editing.{number_below, revalued, step_gone_on, step_valued}
use Rattle.worth_steps.proofs.Revaluing.{as_many_still, gone_on_back, gone_on_leaves, read_is}
use Rattle.worth_steps.proofs.steps.go_on.Goals as goal

pub swap_above-requires : goal.swap_above-requires
swap_above-requires c =
    let ss = c.args.steps.now.items in
    let p = c.args.place in
    let y = c.in_ok-step.step in
    let above : c.in_ok-above.above.items ≡ revalued c.args.start.kind y.value (drop (p + 1) ss)
    = c.in_ok-above.ensures ∙ ap (revalued c.args.start.kind y.value) (take_rest c.deref-2.result.now (p + 1) ∙ ap (drop (p + 1)) c.deref-2.ensures.value) in
    ap (λ (xs : List WorthStep). p + 1 + length xs) above ∙ as_many_still c.args.start.kind y.value p ss y c.requires

pub returns-clause-ok : goal.returns-clause-ok
returns-clause-ok c = λ s at.
    let ss = c.args.steps.now.items in
    let p = c.args.place in
    let y = c.in_ok-step.step in
    let n = number_below c.args.start.first.now p ss in
    let above : c.in_ok-above.above.items ≡ revalued c.args.start.kind y.value (drop (p + 1) ss)
    = c.in_ok-above.ensures ∙ ap (revalued c.args.start.kind y.value) (take_rest c.deref-2.result.now (p + 1) ∙ ap (drop (p + 1)) c.deref-2.ensures.value) in
    let is : c.index.result.now ≡ s = read_is ss p c.index.result.now s c.index.ensures at in
    let valued : y ≡ step_valued c.args.start.kind n (step_gone_on c.args.deed.now c.index.result.now) = search rules in
    let as_asked = valued ∙ ap (λ (x : WorthStep). step_valued c.args.start.kind n (step_gone_on c.args.deed.now x)) is in
    gone_on_leaves c.args.start.kind n p ss c.in_ok-above.above.items c.swap_above.new.steps.items (step_gone_on c.args.deed.now s) y c.requires as_asked above c.swap_above.ensures.steps

pub returns-clause-back : goal.returns-clause-back
returns-clause-back c =
    let ss = c.args.steps.now.items in
    let p = c.args.place in
    let y = c.in_ok-step.step in
    let above : c.in_ok-above.above.items ≡ revalued c.args.start.kind y.value (drop (p + 1) ss)
    = c.in_ok-above.ensures ∙ ap (revalued c.args.start.kind y.value) (take_rest c.deref-2.result.now (p + 1) ∙ ap (drop (p + 1)) c.deref-2.ensures.value) in
    let kept = c.from_vec.ensures ∙ c.swap_above.ensures.above in
    gone_on_back c.args.start.kind y.value p ss c.in_ok-above.above.items c.swap_above.new.steps.items c.from_vec.result c.index.result.now y c.requires c.index.ensures above c.swap_above.ensures.steps kept
