use Rattle.std.proofs.Common.{◌≡◌, ◌-◌, length, sym, arith, slice_get}
use Rattle.std.specs.Prelude.{Some}
use Rattle.worth_steps.proofs.Placing.{all_up_to, length_some}
use Rattle.worth_steps.proofs.steps.steps_up_to.Goals as goal

pub returns-in_default-clause-place : goal.returns-in_default-clause-place
returns-in_default-clause-place c = λ up.
    let ss = c.args.steps.now in
    let at : slice_get ss (length ss - 1) ≡ Some c.in-Some.last.now = sym c.in-Some.ensures.value in
    all_up_to c.args.version.0 ss (length ss - 1) c.in-Some.last.now up (length_some ss c.in-Some.last.now at) at (omega (arith, c.if-version-last.false))
