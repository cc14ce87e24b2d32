use Rattle.std.proofs.Common.{false}
use Rattle.std.proofs.lemmas.Bool.{OnTrue_at}
use Rattle.world_model.specs.Reads.{getting}
use Rattle.tree_step.specs.Reads.{read_part}
use Rattle.tree_home.specs.HeldAnswers.{held_answers}
use Rattle.tree_step.specs.Meant.{part_meant}
use Rattle.tree_step.specs.Node.{data_of}
use Rattle.world_model.specs.Asked.{asked_ops, asked_version}
use Rattle.node_machine.proofs.tree_rows.NoHeldAnswerOpen.{apart_part, apart_tree}
use Rattle.node_machine.proofs.subs.plan_read_tree.Goals as goal

pub plan_answered-requires-clause-apart : goal.plan_answered-requires-clause-apart
plan_answered-requires-clause-apart c =
    let s = c.args.came.now.script.now in
    let n = c.args.core.now in
    let body = c.args.came.now.letter.now.body in
    let st = data_of n.parts in
    let v = asked_version st.turns.read body in
    let part = OnTrue_at c.if-not-branch.false c.in_ok-plan_read.ensures.part in
    apart_part (part_meant c.plan_read.new.scratch) n
    (read_part s c.args.came.now.letter.now.to.0 st c.args.came.now.letter.now.from.0 body) part.row
    (apart_tree s c.args.came.now.letter.now.to.0 c.args.came.now.letter.now.from.0 v false (getting v (asked_ops s body) st.items) body st
    (held_answers n.parts.homes) c.requires.unheld c.requires.ready.apart)
