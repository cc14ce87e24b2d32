use Rattle.std.proofs.Common.{◌≡◌, ◌∙◌, ◌+◌, ◌++◌, List, ap, sym, take, drop, length, rules}
use Rattle.std.specs.List.{insert}
use Rattle.std.proofs.lemmas.List.{take_rest}
use Rattle.worth_steps.specs.declared.steps.WorthStep.{WorthStep}
use Rattle.worth_steps.specs.inside.Editing.{number_below, revalued, step_valued}
use Rattle.worth_steps.proofs.Revaluing.{as_many, begun_back, begun_leaves}
use Rattle.worth_steps.proofs.steps.begin.Goals as goal

pub swap_above-requires : goal.swap_above-requires
swap_above-requires c =
    let ss = c.args.steps.now.items in
    let p = c.args.place in
    let y = c.in_ok-step.step in
    let above : c.in_ok-above.above.items ≡ revalued c.args.start.kind y.value (drop p ss)
    = c.in_ok-above.ensures ∙ ap (revalued c.args.start.kind y.value) (take_rest c.deref-2.result.now p ∙ ap (drop p) c.deref-2.ensures.value) in
    let inserted : c.insert.new.self.items ≡ insert ss p y = c.in_ok-insert.ensures.items in
    ap (λ (xs : List WorthStep). p + 1 + length xs) above ∙ as_many c.args.start.kind y.value p ss y c.requires ∙ ap length (sym inserted)

pub returns-clause-ok : goal.returns-clause-ok
returns-clause-ok c =
    let ss = c.args.steps.now.items in
    let p = c.args.place in
    let y = c.in_ok-step.step in
    let n = number_below c.args.start.first.now p ss in
    let above : c.in_ok-above.above.items ≡ revalued c.args.start.kind y.value (drop p ss)
    = c.in_ok-above.ensures ∙ ap (revalued c.args.start.kind y.value) (take_rest c.deref-2.result.now p ∙ ap (drop p) c.deref-2.ensures.value) in
    let inserted : c.insert.new.self.items ≡ insert ss p y = c.in_ok-insert.ensures.items in
    let valued : y ≡ step_valued c.args.start.kind n c.args.step.now = search rules in
    let made = c.swap_above.ensures.steps ∙ ap (λ (xs : List WorthStep). take (p + 1) xs ++ c.in_ok-above.above.items) inserted in
    begun_leaves c.args.start.kind n p ss c.in_ok-above.above.items c.swap_above.new.steps.items c.args.step.now y c.requires valued above made

pub returns-clause-back : goal.returns-clause-back
returns-clause-back c =
    let ss = c.args.steps.now.items in
    let p = c.args.place in
    let y = c.in_ok-step.step in
    let above : c.in_ok-above.above.items ≡ revalued c.args.start.kind y.value (drop p ss)
    = c.in_ok-above.ensures ∙ ap (revalued c.args.start.kind y.value) (take_rest c.deref-2.result.now p ∙ ap (drop p) c.deref-2.ensures.value) in
    let inserted : c.insert.new.self.items ≡ insert ss p y = c.in_ok-insert.ensures.items in
    let made = c.swap_above.ensures.steps ∙ ap (λ (xs : List WorthStep). take (p + 1) xs ++ c.in_ok-above.above.items) inserted in
    let kept = c.from_vec.ensures ∙ c.swap_above.ensures.above ∙ ap (drop (p + 1)) inserted in
    begun_back c.args.start.kind y.value p ss c.in_ok-above.above.items c.swap_above.new.steps.items c.from_vec.result y c.requires above made kept
