use Rattle.std.proofs.Common.{◌≡◌, ◌∙◌, List, ap}
use Rattle.std.proofs.lemmas.Bool.{OnTrue_at}
use Rattle.std.specs.Prelude.{nat_lt}
use Rattle.nc_locks.specs.Locks.{with_locks}
use Rattle.tx_trees.specs.declared.parts.SubOp.{SubOp}
use Rattle.world_model.specs.Updates.{touching}
use Rattle.tree_step.specs.Updates.{update_part}
use Rattle.tree_home.specs.HeldAnswers.{held_answers}
use Rattle.tree_step.specs.Core.{core_of}
use Rattle.tree_step.specs.Meant.{part_meant}
use Rattle.tree_step.specs.Node.{data_of}
use Rattle.tree_step.specs.declared.plan.Scratch.{Scratch}
use Rattle.world_model.specs.Asked.{asked_ops, asked_version}
use Rattle.world_model.specs.Strict.{answered, marks_of}
use Rattle.node_machine.proofs.tree_rows.NoHeldAnswerOpen.{apart_part, apart_tree}
use Rattle.node_machine.proofs.updates.plan_update_tree.Goals as goal

pub plan_answered-requires-clause-apart : goal.plan_answered-requires-clause-apart
plan_answered-requires-clause-apart c =
    let s = c.args.came.now.script.now in
    let n = c.args.core.now in
    let body = c.args.came.now.letter.now.body in
    let st = data_of n.parts in
    let v = asked_version st.turns.update body in
    let part = OnTrue_at c.if-not-branch.false c.in_ok-plan_update.ensures.part in
    apart_part (part_meant c.plan_update.new.scratch) n
    (update_part s c.args.came.now.letter.now.to.0 st c.args.came.now.letter.now.from.0 body) part.row
    (apart_tree s c.args.came.now.letter.now.to.0 c.args.came.now.letter.now.from.0 v (nat_lt st.turns.update.0 v.0)
    (touching v (asked_ops s body) st.items) body st (held_answers n.parts.homes) c.requires.unheld
    c.requires.ready.apart)

pub returns-clause-step : goal.returns-clause-step
returns-clause-step c =
    let s = c.args.came.now.script.now in
    let n = c.args.core.now in
    let x = c.plan_update.new.scratch in
    let wanted : x.wanted ≡ marks_of s (asked_ops s c.args.came.now.letter.now.body) =
    ap (λ (y : Scratch). y.wanted) c.in_ok-plan_update.ensures.rest ∙ c.in_ok-push_marks.ensures
    ∙ ap (λ (ops : List SubOp). marks_of s ops) c.asked_ops.ensures in
    let part = OnTrue_at c.if-not-branch.false c.in_ok-plan_update.ensures.part in
    record {
      row = c.in_ok-plan_answered.ensures.row
          ∙ (λ i. answered s (record (core_of n) { locks = with_locks c.args.tree (wanted i) n.locks }) (part.row i));
      may = c.in_ok-plan_answered.ensures.may;
    }
