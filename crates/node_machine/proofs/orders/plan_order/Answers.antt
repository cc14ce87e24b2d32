use Rattle.std.proofs.Common.{List, ◌++◌, ◌∙◌, ap}
use Rattle.letter_types.specs.declared.acts.Act.{Act}
use Rattle.letter_types.specs.declared.entries.Outgoing.{Outgoing}
use Rattle.world_model.specs.Advancing.{to_coordinator}
use Rattle.node_machine.specs.inside.Advancing.{acts_if}
use Rattle.node_machine.proofs.coordinator_rows.OrderOfParts.{ordered}
use Rattle.node_machine.proofs.orders.plan_order.Goals as goal

pub returns-clause-step : goal.returns-clause-step
returns-clause-step c =
    ordered c.args.script.now c.args.what c.args.version c.args.answer c.args.node.now c.order_doing.result
    (record c.args.scratch.now { sent = c.push_answer.new.sent; acts = c.push_act.new.acts }) c.requires.ready
    c.requires.can c.order_doing.ensures
    (c.in_ok-push_answer.ensures
    ∙ ap (λ (os : List Outgoing). os ++ to_coordinator c.args.script.now c.args.answer) c.requires.none_sent)
    (c.in_ok-push_act.ensures ∙ ap (λ (done : List Act). done ++ acts_if c.order_act.result) c.requires.no_acts
    ∙ c.order_act.ensures)
