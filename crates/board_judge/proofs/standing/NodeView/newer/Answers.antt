use Rattle.std.proofs.Common.{◌<◌, length, ap, sym, ◌∙◌, refl}
use Rattle.std.proofs.lemmas.List.{drop_all}
use Rattle.script_parts.specs.declared.parts.SubOp.{SubOp}
use Rattle.board_rules.specs.Stands.{newer_of}
use Rattle.board_judge.proofs.Against.{all_at, newer_first, newer_passed}
use Rattle.board_judge.proofs.standing.NodeView.newer.Goals as goal

pub loop-op-init : goal.loop-op-init
loop-op-init c = λ xs view there strict. refl

pub returns-in-Some : goal.returns-in-Some
returns-in-Some c = λ xs view there strict.
    let is_there = all_at (λ (o : SubOp). o.item.0 < length c.args.self.now.script.now.items) c.args.ops.now c.loop-op.op-index _ c.loop-op-test.true there in
    newer_first c.args.self.now.script.now xs c.args.self.now.node.0 c.args.version c.args.ops.now c.loop-op.op-index _ c.newer_item.result _ c.in-Some.cause c.loop-op-test.true
    (c.newer_item.ensures xs view is_there strict) (c.loop-op.invariant xs view there strict) c.in-Some.is

pub loop-op-preserved : goal.loop-op-preserved
loop-op-preserved c = λ xs view there strict.
    let is_there = all_at (λ (o : SubOp). o.item.0 < length c.args.self.now.script.now.items) c.args.ops.now c.loop-op.op-index _ c.loop-op-test.true there in
    newer_passed c.args.self.now.script.now xs c.args.self.now.node.0 c.args.version c.args.ops.now c.loop-op.op-index _ c.newer_item.result _ c.loop-op-test.true
    (c.newer_item.ensures xs view is_there strict) (c.loop-op.invariant xs view there strict) c.in_default.is

pub returns : goal.returns
returns c = λ xs view there strict.
    ap (newer_of c.args.self.now.script.now xs c.args.self.now.node.0 c.args.version) (sym (drop_all c.loop-op.op-index c.args.ops.now c.loop-op-test.false))
    ∙ c.loop-op.invariant xs view there strict
