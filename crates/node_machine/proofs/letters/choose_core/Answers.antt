use Rattle.std.proofs.Common.{sym}
use Rattle.tree_step.specs.Core.{core_of}
use Rattle.node_machine.proofs.enabled.TestsSayEnabled.{other_unapt}
use Rattle.node_machine.proofs.enabled.PlansByBody.{own_plan}
use Rattle.node_machine.proofs.letters.choose_core.Goals as goal

pub returns-then-not-suits_coordinator : goal.returns-then-not-suits_coordinator
returns-then-not-suits_coordinator c =
    let l = c.args.came.now.letter.now in
    other_unapt c.args.came.now.script.now l.to.0 (core_of c.args.core.now) l (sym c.if-not-suits_coordinator.ensures)

pub returns : goal.returns
returns c =
    own_plan c.args.came.now.script.now c.args.came.now.letter.now c.args.core.now c.choose_own.new.scratch _
    (sym c.if-not-suits_coordinator.ensures) c.choose_own.ensures
