use Rattle.std.proofs.Common.{◌≤◌, ◌∙◌, sym, length, arith}
use Rattle.coord_restart.proofs.Parts.{least_first, least_last}
use Rattle.coord_restart.proofs.tellings.least.Goals as goal

pub loop-t-init : goal.loop-t-init
loop-t-init c = (least_first c.args.told.now, omega arith)

pub returns : goal.returns
returns c =
    let all : length c.args.told.now ≤ c.loop-t.t-index = omega (arith, c.loop-t-test.false) in
    sym (least_last c.args.told.now c.loop-t.t-index c.loop-t.least all c.loop-t.invariant.1) ∙ c.loop-t.invariant.0
