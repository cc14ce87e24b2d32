use Rattle.std.proofs.Common.{◌≡◌, refl, sym, subst, false, Option, Some}
use Rattle.std.specs.Prelude.{IfOk}
use Rattle.tree_step.specs.Core.{core_of}
use Rattle.tree_step.specs.Node.{data_of}
use Rattle.tx_trees.specs.declared.parts.TreeKind.{TreeKind}
use Rattle.tx_trees.specs.declared.parts.TreeKind.TheVariants.{Update, Read, Strict}
use Rattle.world_model.specs.Reads.{can_read}
use Rattle.world_model.specs.Strict.{CoreKeeping, read_core}
use Rattle.node_machine.specs.Apt.{makes_by}
use Rattle.node_machine.specs.Choices.{choice_meant}
use Rattle.node_machine.specs.Plans.{IsPlanBy}
use Rattle.node_machine.specs.declared.node_plan.CoreChoice.{CoreChoice}
use Rattle.node_machine.proofs.enabled.PlansByBody.{kind_plan}
use Rattle.node_machine.proofs.tree_rows.DeferredSubs.{reads_free}
use Rattle.node_machine.proofs.subs.choose_kind.Goals as goal

pub returns-in_default : goal.returns-in_default
returns-in_default c =
    let s = c.args.came.now.script.now in
    subst (λ (k : Option TreeKind). makes_by s (data_of c.args.core.now.parts) c.args.came.now.letter.now.body k ≡ false)
    (rw c.in_default.is at c.kind_of-found.ensures) refl

pub returns-in-Update : goal.returns-in-Update
returns-in-Update c =
    kind_plan c.args.came.now.script.now c.args.came.now.letter.now c.args.core.now c.choose_update.new.scratch c.args.tree (Some Update)
    c.choose_update.result (rw (c.in-Some.is, c.in-Update.is) at c.kind_of-found.ensures) c.choose_update.ensures

pub returns-in-Read : goal.returns-in-Read
returns-in-Read c =
    let s = c.args.came.now.script.now in
    let l = c.args.came.now.letter.now in
    let n = c.args.core.now in
    let x = c.choose_read.new.scratch in
    kind_plan s l n x c.args.tree (Some Read) c.choose_read.result
    (rw (c.in-Some.is, c.in-Read.is) at c.kind_of-found.ensures)
    (subst (λ (k : Option CoreKeeping). IfOk c.choose_read.result (λ (choice : CoreChoice).
    IsPlanBy (can_read s (data_of n.parts) l.body) k (read_core s l.to.0 l.from.0 l.body (core_of n)) n
    (choice_meant choice x)))
    (sym (reads_free s (core_of n) c.args.tree l.body)) c.choose_read.ensures)

pub returns-in-Strict : goal.returns-in-Strict
returns-in-Strict c =
    kind_plan c.args.came.now.script.now c.args.came.now.letter.now c.args.core.now c.choose_strict.new.scratch c.args.tree (Some Strict)
    c.choose_strict.result (rw (c.in-Some.is, c.in-Strict.is) at c.kind_of-found.ensures) c.choose_strict.ensures
