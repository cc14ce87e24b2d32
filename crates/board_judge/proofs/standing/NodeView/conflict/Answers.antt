use Rattle.std.proofs.Common.{◌<◌, length, ap, sym, subst, ◌∙◌, refl}
use Rattle.std.proofs.lemmas.List.{drop_all}
use Rattle.nc_locks.specs.declared.modes.Mode.{Mode}
use Rattle.script_parts.specs.Wants.{mode_wanted}
use Rattle.script_parts.specs.declared.parts.SubOp.{SubOp}
use Rattle.board_rules.specs.Stands.{conflict_of}
use Rattle.board_judge.specs.Views.{MayNeed}
use Rattle.board_judge.proofs.Against.{all_at, conflict_found, conflict_passed}
use Rattle.board_judge.proofs.standing.NodeView.conflict.Goals as goal

pub loop-op-init : goal.loop-op-init
loop-op-init c = λ xs view there may. refl

pub returns-in-Some : goal.returns-in-Some
returns-in-Some c = λ xs view there may.
    let is_there = all_at (λ (o : SubOp). o.item.0 < length c.args.self.now.script.now.items) c.args.ops.now c.loop-op.op-index _ c.loop-op-test.true there in
    let needed = all_at (λ (o : SubOp). MayNeed c.args.self.now.script.now (mode_wanted o.deed)) c.args.ops.now c.loop-op.op-index _ c.loop-op-test.true may in
    conflict_found c.args.self.now.script.now xs c.args.self.now.node.0 c.args.tree.0 c.args.ops.now c.loop-op.op-index _ c.lock_mode-mode.result c.holder.result
    c.loop-op-test.true c.lock_mode-mode.ensures
    (c.holder.ensures xs view is_there (subst (λ (m : Mode). MayNeed c.args.self.now.script.now m) (sym c.lock_mode-mode.ensures) needed))
    c.in-Some.holder _ c.in-Some.is (c.loop-op.invariant xs view there may)

pub loop-op-preserved : goal.loop-op-preserved
loop-op-preserved c = λ xs view there may.
    let is_there = all_at (λ (o : SubOp). o.item.0 < length c.args.self.now.script.now.items) c.args.ops.now c.loop-op.op-index _ c.loop-op-test.true there in
    let needed = all_at (λ (o : SubOp). MayNeed c.args.self.now.script.now (mode_wanted o.deed)) c.args.ops.now c.loop-op.op-index _ c.loop-op-test.true may in
    conflict_passed c.args.self.now.script.now xs c.args.self.now.node.0 c.args.tree.0 c.args.ops.now c.loop-op.op-index _ c.lock_mode-mode.result c.holder.result
    c.loop-op-test.true c.lock_mode-mode.ensures
    (c.holder.ensures xs view is_there (subst (λ (m : Mode). MayNeed c.args.self.now.script.now m) (sym c.lock_mode-mode.ensures) needed))
    _ c.in_default.is (c.loop-op.invariant xs view there may)

pub returns : goal.returns
returns c = λ xs view there may.
    ap (conflict_of c.args.self.now.script.now xs c.args.self.now.node.0 c.args.tree.0) (sym (drop_all c.loop-op.op-index c.args.ops.now c.loop-op-test.false))
    ∙ c.loop-op.invariant xs view there may
