use Rattle.std.proofs.Common.{◌≡◌, ◌-◌, length, sym, slice_get}
use Rattle.std.specs.Prelude.{Some}
use Rattle.worth_steps.proofs.Placing.{last_is_newest, length_some}
use Rattle.worth_steps.proofs.steps.newest_step.Goals as goal

pub returns-in-Some : goal.returns-in-Some
returns-in-Some c = λ up.
    let ss = c.args.steps.now in
    let at : slice_get ss (length ss - 1) ≡ Some c.in-Some.step.now = sym c.in-Some.ensures.value in
    last_is_newest ss (length ss - 1) c.in-Some.step.now up (length_some ss c.in-Some.step.now at) at
