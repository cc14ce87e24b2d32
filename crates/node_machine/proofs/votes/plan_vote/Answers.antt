use Rattle.std.proofs.Common.{◌≡◌, ◌∙◌, true, ap, subst, sym}
use Rattle.std.specs.Prelude.{OnOk}
use Rattle.tv_base.specs.declared.numbers.Version.{Version}
use Rattle.item_versions.proofs.Window.{in_window-is}
use Rattle.item_versions.specs.Table.{StagedItems, pending}
use Rattle.item_versions.specs.Window.{in_window, IsWindowedTable}
use Rattle.letter_types.specs.Steps.{Out}
use Rattle.tree_home.specs.HeldAnswers.{held_answers}
use Rattle.world_model.specs.Core.{Core}
use Rattle.world_model.specs.Node.{Effect}
use Rattle.tree_step.proofs.Dues.{asked_near}
use Rattle.tree_step.specs.Node.{data_of}
use Rattle.tree_step.specs.CoreChanges.{IsCoreStepOf}
use Rattle.tree_step.specs.Meant.{core_in, part_meant, votes_meant}
use Rattle.tree_step.specs.declared.plan.Scratch.{Scratch}
use Rattle.world_model.specs.Asked.{tree_part}
use Rattle.node_machine.proofs.tree_rows.NoHeldAnswerOpen.{apart_part, apart_tree}
use Rattle.node_machine.proofs.tree_rows.VoteRows.{vote_decides, vote_row}
use Rattle.node_machine.proofs.votes.plan_vote.Goals as goal

pub plan_tree-requires-clause-fits : goal.plan_tree-requires-clause-fits
plan_tree-requires-clause-fits c =
    let n = c.args.core.now.parts in
    let none = ap (λ (x : Scratch). x.staged) c.in_ok-votes.ensures.rest
    ∙ ap (λ (x : Scratch). x.staged) c.requires.empty in
    subst (λ (staged : StagedItems). IsWindowedTable n.turns.low.0 (pending staged n.items)) (sym none)
    c.requires.ready.parts.window.items

pub plan_tree-requires-clause-unanswered : goal.plan_tree-requires-clause-unanswered
plan_tree-requires-clause-unanswered c =
    ap (λ (x : Scratch). x.answered) c.in_ok-votes.ensures.rest ∙ ap (λ (x : Scratch). x.answered) c.requires.empty

pub plan_tree-requires-clause-no_values : goal.plan_tree-requires-clause-no_values
plan_tree-requires-clause-no_values c =
    ap (λ (x : Scratch). x.values) c.in_ok-votes.ensures.rest ∙ ap (λ (x : Scratch). x.values) c.requires.empty

pub plan_tree-requires-clause-none_sent : goal.plan_tree-requires-clause-none_sent
plan_tree-requires-clause-none_sent c =
    ap (λ (x : Scratch). x.sent) c.in_ok-votes.ensures.rest ∙ ap (λ (x : Scratch). x.sent) c.requires.empty

pub plan_tree-requires-clause-no_acts : goal.plan_tree-requires-clause-no_acts
plan_tree-requires-clause-no_acts c =
    ap (λ (x : Scratch). x.acts) c.in_ok-votes.ensures.rest ∙ ap (λ (x : Scratch). x.acts) c.requires.empty

pub plan_decided-requires-clause-apart : goal.plan_decided-requires-clause-apart
plan_decided-requires-clause-apart c =
    let s = c.args.came.now.script.now in
    let n = c.args.core.now in
    let l = c.args.came.now.letter.now in
    let staged = c.change_by.new.scratch.staged in
    let e : Effect = record { items = pending staged n.parts.items; notice = c.notice_by.result } in
    apart_part (part_meant c.plan_tree.new.scratch) n
    (tree_part s l.to.0 l.from.0 c.asked_version-version.result c.is_above-raises.result e l.body (data_of n.parts))
    c.in_ok-plan_tree.ensures.part.row
    (apart_tree s l.to.0 l.from.0 c.asked_version-version.result c.is_above-raises.result e l.body (data_of n.parts)
    (held_answers n.parts.homes) c.requires.unheld c.requires.ready.apart)

pub plan_decided-requires-clause-decide : goal.plan_decided-requires-clause-decide
plan_decided-requires-clause-decide c =
    let s = c.args.came.now.script.now in
    let n = c.args.core.now in
    let l = c.args.came.now.letter.now in
    let staged = c.change_by.new.scratch.staged in
    let e : Effect = record { items = pending staged n.parts.items; notice = c.notice_by.result } in
    let low = n.parts.turns.low.0 in
    let root = in_window-is low n.parts.turns.update.0 c.requires.ready.parts.window.low_update
    c.requires.ready.parts.window.update in
    let near = subst (λ (v : Version). in_window low v.0 ≡ true) (sym c.asked_version-version.ensures)
    (asked_near s l.to.0 l.from.0 (data_of n.parts) l.body n.parts.turns.update root c.requires.due) in
    vote_decides s l.to.0 l.from.0 c.asked_version-version.result c.is_above-raises.result e l.body n
    (part_meant c.plan_tree.new.scratch)
    c.requires.ready.parts.script c.requires.ready.parts.there c.requires.due c.requires.unheld near
    c.in_ok-plan_tree.ensures.part.row

pub plan_decided-requires-clause-none_told : goal.plan_decided-requires-clause-none_told
plan_decided-requires-clause-none_told c =
    ap (λ (x : Scratch). x.told) c.in_ok-plan_tree.ensures.rest
    ∙ ap (λ (x : Scratch). x.told) c.in_ok-votes.ensures.rest ∙ ap (λ (x : Scratch). x.told) c.requires.empty

pub returns : goal.returns
returns c =
    let s = c.args.came.now.script.now in
    let n = c.args.core.now in
    let l = c.args.came.now.letter.now in
    let before = c.change_by.new.scratch in
    let x = c.plan_tree.new.scratch in
    let none = ap (λ (w : Scratch). w.staged) c.in_ok-votes.ensures.rest
    ∙ ap (λ (w : Scratch). w.staged) c.requires.empty in
    let votes = ap (λ (w : Scratch). votes_meant c.in_ok-votes.votes w) c.in_ok-plan_tree.ensures.rest
    ∙ c.in_ok-votes.ensures.votes in
    subst (λ (o : Out Core). OnOk c.plan_decided.result (IsCoreStepOf o n (core_in c.plan_decided.new.scratch)))
    (vote_row s l.to.0 l.from.0 c.args.tree l.body n (part_meant x) c.asked_version-version.result
    c.is_above-raises.result before.staged c.notice_by.result c.in_ok-vote.vote c.asked_ops-ops.result.now
    (votes_meant c.in_ok-votes.votes x) c.in_ok-plan_tree.ensures.part.row none c.notice_by.ensures
    c.is_above-raises.ensures votes c.asked_ops-ops.ensures c.in_ok-vote.ensures c.asked_version-version.ensures)
    c.plan_decided.ensures
