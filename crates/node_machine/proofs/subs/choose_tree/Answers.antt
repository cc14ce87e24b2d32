use Rattle.std.proofs.Common.{sym}
use Rattle.tv_base.proofs.Truths.{left_true, right_true}
use Rattle.tree_home.specs.HeldAnswers.{held_answers}
use Rattle.world_model.specs.Named.{tree_kind_at}
use Rattle.world_model.specs.Strict.{is_unheld}
use Rattle.tree_step.specs.Due.{is_due}
use Rattle.tree_step.specs.Node.{data_of}
use Rattle.node_machine.specs.Apt.{makes_by}
use Rattle.node_machine.proofs.enabled.PlansByBody.{tree_plan, unfree}
use Rattle.node_machine.proofs.subs.choose_tree.Goals as goal

pub returns-then-not-is_free : goal.returns-then-not-is_free
returns-then-not-is_free c =
    let s = c.args.came.now.script.now in
    let l = c.args.came.now.letter.now in
    let n = c.args.core.now in
    unfree (is_due s l.to.0 (data_of n.parts) l.from.0 l.body) (is_unheld l.body (held_answers n.parts.homes))
    (makes_by s (data_of n.parts) l.body (tree_kind_at s c.args.tree.0)) c.if-not-is_free.ensures

pub choose_kind-requires-clause-due : goal.choose_kind-requires-clause-due
choose_kind-requires-clause-due c =
    let s = c.args.came.now.script.now in
    let l = c.args.came.now.letter.now in
    let n = c.args.core.now in
    left_true (is_due s l.to.0 (data_of n.parts) l.from.0 l.body) (is_unheld l.body (held_answers n.parts.homes))
    (sym c.if-not-is_free.ensures)

pub choose_kind-requires-clause-unheld : goal.choose_kind-requires-clause-unheld
choose_kind-requires-clause-unheld c =
    let s = c.args.came.now.script.now in
    let l = c.args.came.now.letter.now in
    let n = c.args.core.now in
    right_true (is_due s l.to.0 (data_of n.parts) l.from.0 l.body) (is_unheld l.body (held_answers n.parts.homes))
    (sym c.if-not-is_free.ensures)

pub returns : goal.returns
returns c =
    tree_plan c.args.came.now.script.now c.args.came.now.letter.now c.args.core.now c.choose_kind.new.scratch c.args.tree
    c.choose_kind.result c.if-not-is_free.ensures c.choose_kind.ensures
