use Rattle.std.proofs.Common.{refl, None}
use Rattle.letter_types.specs.declared.bodies.Body.TheVariants.{AskAsked}
use Rattle.world_model.specs.Advancing.{asked_row}
use Rattle.tree_step.specs.Meant.{core_meant}
use Rattle.tree_step.specs.Node.{data_of}
use Rattle.tree_step.specs.Core.{core_of}
use Rattle.node_machine.specs.inside.Stays.{hearing}
use Rattle.node_machine.proofs.enabled.TestsSayEnabled.{asked_row_apt}
use Rattle.node_machine.proofs.coordinator_rows.OrderOfCore.{of_parts_step, own_done}
use Rattle.node_machine.proofs.questions.choose_asked_row.Goals as goal

pub returns : goal.returns
returns c =
    let s = c.args.came.now.script.now in
    let l = c.args.came.now.letter.now in
    let n = c.args.core.now in
    let v = c.args.asked.version in
    let k = c.args.asked.round in
    let x = c.plan_asked_row.new.scratch in
    let row = asked_row s v k (data_of n.parts) in
    own_done s l n (AskAsked v k) (hearing None (core_of n) row) (core_meant c.plan_of-scratch.result x) c.requires.body
    (asked_row_apt s l.to.0 l.from.0 (core_of n) v k) refl refl
    (of_parts_step row n c.in_ok-doing.doing x None c.plan_of-scratch.result c.plan_of-scratch.ensures c.in_ok-doing.ensures.step refl
    c.requires.ready.apart)
