use Rattle.std.proofs.Common.{◌∙◌}
use Rattle.tree_step.specs.Node.{data_of}
use Rattle.tree_step.proofs.Updated.{asked_within, touchable}
use Rattle.tree_step.proofs.updates.can_update.Goals as goal

pub stage_ops-requires-clause-near : goal.stage_ops-requires-clause-near
stage_ops-requires-clause-near c =
    asked_within c.args.script.now c.args.letter.now.to.0 c.args.letter.now.from.0 c.args.node.now c.args.letter.now.body
    c.asked_version-asked.result c.requires.ready c.requires.due c.asked_version-asked.ensures

pub returns : goal.returns
returns c =
    c.in_ok-can.ensures.can
    ∙ touchable c.args.script.now c.args.letter.now.body (data_of c.args.node.now) c.asked_version-asked.result
    c.asked_ops.result.now c.asked_version-asked.ensures c.asked_ops.ensures
