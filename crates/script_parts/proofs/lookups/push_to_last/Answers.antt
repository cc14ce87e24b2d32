use Rattle.std.proofs.Common.{◌≡◌, ◌-◌, ◌∙◌, Option, MutBor, length, arith, ap, suc, sym}
use Rattle.std.specs.Option.{option_copied_mut}
use Rattle.script_parts.specs.declared.parts.Sub.{Sub}
use Rattle.script_parts.proofs.Last.{lent_last, on_err, push_op_last, put_back_last}
use Rattle.script_parts.proofs.lookups.push_to_last.Goals as goal

pub returns-in_err-add-clause-err : goal.returns-in_err-add-clause-err
returns-in_err-add-clause-err c =
    let is = lent_last c.args.subs.now c.unwrap-sub.result.now c.requires (sym (ap (λ (r : Option (MutBor Sub)). option_copied_mut r) c.unwrap-sub.ensures) ∙ c.last_mut.ensures.value) in
    on_err _ c.from_residual.result (put_back_last c.args.subs.now _ c.unwrap-sub.result.now c.add.new.self is c.in_err-add.ensures.err)

pub returns-clause-ok : goal.returns-clause-ok
returns-clause-ok c =
    let is = lent_last c.args.subs.now c.unwrap-sub.result.now c.requires (sym (ap (λ (r : Option (MutBor Sub)). option_copied_mut r) c.unwrap-sub.ensures) ∙ c.last_mut.ensures.value) in
    let e : suc (length c.args.subs.now - 1) ≡ length c.args.subs.now = omega (arith, c.requires) in
    push_op_last c.args.subs.now _ c.unwrap-sub.result.now c.args.op c.add.new.self e is c.in_ok-add.ensures.ok
