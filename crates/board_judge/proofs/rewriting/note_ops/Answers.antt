use Rattle.std.proofs.Common.{◌∙◌}
use Rattle.board_judge.proofs.Rewritten.{ops_all, ops_on}
use Rattle.board_judge.proofs.rewriting.note_ops.Goals as goal

pub loop-op-preserved : goal.loop-op-preserved
loop-op-preserved c = record {
  noted = ops_on c.args.version.0 c.loop-op.op-index c.args.ops.now _ c.args.kept.now.worths.items c.loop-op.kept.worths.items c.note_op.new.kept.worths.items
      c.loop-op-test.true c.loop-op.invariant.noted c.in_ok-note_op.ensures.noted;
  back = c.in_ok-note_op.ensures.back ∙ c.loop-op.invariant.back;
}

pub returns-clause-noted : goal.returns-clause-noted
returns-clause-noted c =
    ops_all c.args.version.0 c.loop-op.op-index c.args.ops.now c.args.kept.now.worths.items c.loop-op.kept.worths.items c.loop-op-test.false c.loop-op.invariant.noted
