use Rattle.std.proofs.Common.{◌≡◌, ◌∙◌, true, sym, subst}
use Rattle.tv_base.specs.declared.numbers.Version.{Version}
use Rattle.item_versions.specs.Window.{in_window}
use Rattle.item_versions.proofs.Window.{in_window-is}
use Rattle.letter_types.specs.declared.bodies.Notice.TheVariants.{Did}
use Rattle.item_versions.specs.Table.{pending}
use Rattle.tree_step.specs.Node.{Effect, data_of}
use Rattle.tree_step.proofs.Dues.{asked_near}
use Rattle.tree_step.proofs.WasRead.{gettable, part_read}
use Rattle.tree_step.proofs.reads.plan_read.Goals as goal

pub plan_tree-requires-clause-near : goal.plan_tree-requires-clause-near
plan_tree-requires-clause-near c =
    let n = c.args.node.now in
    let l = c.args.came.now.letter.now in
    let low = n.turns.low.0 in
    let root = in_window-is low n.turns.read.0 c.requires.ready.window.low_read c.requires.ready.window.read in
    let near = asked_near c.args.came.now.script.now l.to.0 l.from.0 (data_of n) l.body n.turns.read root c.requires.due in
    subst (λ (v : Version). in_window low v.0 ≡ true) (sym c.asked_version-version.ensures) near

pub returns-clause-can : goal.returns-clause-can
returns-clause-can c =
    rw c.in-Some.is at c.in_ok-values.ensures.can
    ∙ gettable c.args.came.now.script.now c.args.came.now.letter.now.body (data_of c.args.node.now) c.asked_version-version.result
    c.asked_ops-ops.result.now c.asked_version-version.ensures c.asked_ops-ops.ensures

pub returns-clause-part : goal.returns-clause-part
returns-clause-part c =
    let n = c.args.node.now in
    let l = c.args.came.now.letter.now in
    let none = c.requires.none_staged in
    let got = rw c.in-Some.is at c.in_ok-values.ensures.values in
    let e : Effect = record { items = pending c.args.scratch.now.staged n.items; notice = Did c.in-Some.values } in
    record {
      row =
          part_read c.args.came.now.script.now l.to.0 l.from.0 l.body (data_of n) c.asked_version-version.result
          c.asked_ops-ops.result.now e _ c.asked_version-version.ensures c.asked_ops-ops.ensures
          (λ i. record { items = pending (none i) n.items; notice = Did (got i) }) c.in_ok-plan_tree.ensures.part.row;
      may = c.in_ok-plan_tree.ensures.part.may;
      counted = c.in_ok-plan_tree.ensures.part.counted;
    }
