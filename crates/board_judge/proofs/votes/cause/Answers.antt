use Rattle.std.proofs.Common.{ℕ, ap, sym, subst, ◌∙◌}
use Rattle.script_parts.specs.ScriptData.{ops_of}
use Rattle.board_rules.specs.Histories.{places_of, version_in, version_or}
use Rattle.board_rules.specs.Stands.{conflict_of, newer_of, short_of}
use Rattle.board_judge.specs.Views.{AreThere, MayLook}
use Rattle.board_judge.specs.inside.Shorts.{short_ops}
use Rattle.board_judge.proofs.Against.{has_one}
use Rattle.board_judge.proofs.Fitting.{all_asked, ops_there}
use Rattle.board_judge.proofs.Voting.{cause_first, cause_second, cause_third, short_same}
use Rattle.board_judge.proofs.votes.cause.Goals as goal

pub returns-then-is_some : goal.returns-then-is_some
returns-then-is_some c = λ h xs midway strict.
    let s = c.args.before.now.basis.now.script.now in
    let t = c.args.asked.tree.0 in
    let k = c.args.asked.sub.0 in
    let same = c.ops_of-ops.ensures in
    let there = subst (AreThere s) (sym same) (ops_there s t k midway.view.valid) in
    let may = subst (MayLook s) (sym same) (all_asked s (ops_of s t k) (has_one s t strict)) in
    cause_first c.conflict-lock.result (conflict_of s xs c.args.node.0 t (ops_of s t k))
    (newer_of s xs c.args.node.0 (version_or 0 (version_in t xs)) (ops_of s t k)) (short_of s h (version_or 0 (version_in t xs)) (ops_of s t k))
    (c.conflict-lock.ensures xs midway.view there may ∙ ap (conflict_of s xs c.args.node.0 t) same) (sym c.is_some.ensures ∙ c.if-is_some.true)

pub returns-then-is_some-2 : goal.returns-then-is_some-2
returns-then-is_some-2 c = λ h xs midway strict.
    let s = c.args.before.now.basis.now.script.now in
    let t = c.args.asked.tree.0 in
    let k = c.args.asked.sub.0 in
    let same = c.ops_of-ops.ensures in
    let has = has_one s t strict in
    let there = subst (AreThere s) (sym same) (ops_there s t k midway.view.valid) in
    let may = subst (MayLook s) (sym same) (all_asked s (ops_of s t k) has) in
    let version = c.version_or_zero-version.ensures s xs midway.view.board in
    cause_second c.conflict-lock.result (conflict_of s xs c.args.node.0 t (ops_of s t k)) c.newer-later.result
    (newer_of s xs c.args.node.0 (version_or 0 (version_in t xs)) (ops_of s t k)) (short_of s h (version_or 0 (version_in t xs)) (ops_of s t k))
    (c.conflict-lock.ensures xs midway.view there may ∙ ap (conflict_of s xs c.args.node.0 t) same) (sym c.is_some.ensures ∙ c.if-is_some.false)
    (c.newer-later.ensures xs midway.view there has ∙ ap (newer_of s xs c.args.node.0 c.version_or_zero-version.result) same
    ∙ ap (λ (v : ℕ). newer_of s xs c.args.node.0 v (ops_of s t k)) version) (sym c.is_some-2.ensures ∙ c.if-is_some-2.true)

pub returns : goal.returns
returns c = λ h xs midway strict.
    let s = c.args.before.now.basis.now.script.now in
    let t = c.args.asked.tree.0 in
    let k = c.args.asked.sub.0 in
    let same = c.ops_of-ops.ensures in
    let has = has_one s t strict in
    let there = subst (AreThere s) (sym same) (ops_there s t k midway.view.valid) in
    let may = subst (MayLook s) (sym same) (all_asked s (ops_of s t k) has) in
    let version = c.version_or_zero-version.ensures s xs midway.view.board in
    cause_third c.conflict-lock.result (conflict_of s xs c.args.node.0 t (ops_of s t k)) c.newer-later.result
    (newer_of s xs c.args.node.0 (version_or 0 (version_in t xs)) (ops_of s t k)) c.in_ok-found.found
    (short_of s h (version_or 0 (version_in t xs)) (ops_of s t k))
    (c.conflict-lock.ensures xs midway.view there may ∙ ap (conflict_of s xs c.args.node.0 t) same) (sym c.is_some.ensures ∙ c.if-is_some.false)
    (c.newer-later.ensures xs midway.view there has ∙ ap (newer_of s xs c.args.node.0 c.version_or_zero-version.result) same
    ∙ ap (λ (v : ℕ). newer_of s xs c.args.node.0 v (ops_of s t k)) version) (sym c.is_some-2.ensures ∙ c.if-is_some-2.false)
    (c.in_ok-found.ensures s (places_of h) midway.known there ∙ ap (short_ops s (places_of h) c.version_or_zero-version.result) same
    ∙ ap (λ (v : ℕ). short_ops s (places_of h) v (ops_of s t k)) version ∙ short_same s h (version_or 0 (version_in t xs)) (ops_of s t k))
