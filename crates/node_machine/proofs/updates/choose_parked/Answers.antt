use Rattle.item_versions.proofs.Window.{in_window-is}
use Rattle.tree_step.proofs.Dues.{asked_near}
use Rattle.tree_step.specs.Node.{data_of}
use Rattle.node_machine.specs.Choices.{kept_by_plan}
use Rattle.node_machine.proofs.tree_rows.DeferredSubs.{parked_plan}
use Rattle.node_machine.proofs.updates.choose_parked.Goals as goal

pub returns : goal.returns
returns c =
    let n = c.args.core.now in
    let l = c.args.came.now.letter.now in
    let low = n.parts.turns.low.0 in
    let root = in_window-is low n.parts.turns.update.0 c.requires.ready.parts.window.low_update
    c.requires.ready.parts.window.update in
    let near = asked_near c.args.came.now.script.now l.to.0 l.from.0 (data_of n.parts) l.body n.parts.turns.update root
    c.requires.due in
    parked_plan c.args.came.now.script.now n c.args.tree l.body c.args.met
    (kept_by_plan c.in_ok-keep.keep c.plan_parked.new.acts) _ c.requires.can c.requires.asks c.requires.met near
    c.in_ok-keep.ensures
