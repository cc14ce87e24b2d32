use Rattle.std.proofs.Common.{◌<◌, length, ap, sym, ◌∙◌, refl}
use Rattle.std.proofs.lemmas.List.{drop_all}
use Rattle.script_parts.specs.declared.parts.SubOp.{SubOp}
use Rattle.board_judge.specs.inside.Shorts.{short_ops}
use Rattle.board_judge.proofs.Against.{all_at}
use Rattle.board_judge.proofs.Seeing.{short_first, short_passed}
use Rattle.board_judge.proofs.shown.short.Goals as goal

pub loop-op-init : goal.loop-op-init
loop-op-init c = λ s xs known there. refl

pub returns-then-is_some : goal.returns-then-is_some
returns-then-is_some c = λ s xs known there.
    let is_there = all_at (λ (o : SubOp). o.item.0 < length s.items) c.args.ops.now c.loop-op.op-index _ c.loop-op-test.true there in
    short_first s xs c.args.version.0 c.args.ops.now c.loop-op.op-index _ c.in_ok-cause.cause _ c.loop-op-test.true
    (c.in_ok-cause.ensures s xs known is_there) (c.loop-op.invariant s xs known there) (sym c.is_some.ensures ∙ c.if-is_some.true)

pub loop-op-preserved : goal.loop-op-preserved
loop-op-preserved c = λ s xs known there.
    let is_there = all_at (λ (o : SubOp). o.item.0 < length s.items) c.args.ops.now c.loop-op.op-index _ c.loop-op-test.true there in
    short_passed s xs c.args.version.0 c.args.ops.now c.loop-op.op-index _ c.in_ok-cause.cause _ c.loop-op-test.true
    (c.in_ok-cause.ensures s xs known is_there) (c.loop-op.invariant s xs known there) (sym c.is_some.ensures ∙ c.if-is_some.false)

pub returns : goal.returns
returns c = λ s xs known there.
    ap (short_ops s xs c.args.version.0) (sym (drop_all c.loop-op.op-index c.args.ops.now c.loop-op-test.false))
    ∙ c.loop-op.invariant s xs known there
