use Rattle.std.proofs.Common.{◌≡◌, arith, ap, subst, ◌∙◌}
use Rattle.script_parts.specs.Adding.{last_ops, last_subs}
use Rattle.script_parts.specs.Counts.{all_ops, all_subs, update_subs}
use Rattle.script_parts.specs.ScriptData.{ScriptData}
use Rattle.script_parts.specs.Valid.{IsValid}
use Rattle.tx_trees.proofs.Kept.{few_updates}
use Rattle.tx_trees.proofs.Undoing.{sizes_are}
use Rattle.tx_trees.proofs.script.Script.sizes_with.Goals as goal

pub overflow_cast-before : goal.overflow_cast-before
overflow_cast-before c =
    let d = c.args.self.now in
    let valid = subst IsValid c.self.view_is c.self.invariant.valid in
    let z = sizes_are d c.args.failed.0 c.args.expanded.now c.requires.begun c.requires.adds c.requires.earlier c.requires.undone c.requires.few valid in
    let same = ap (λ (x : ScriptData). x.trees) c.self.view_is in
    let before : c.last_subs-before.result ≡ last_subs d.trees = c.last_subs-before.ensures ∙ ap last_subs (c.deref.ensures.value ∙ same) in
    omega (arith, before, z.few_before)

pub last_ops-ops_before-requires-clause-few : goal.last_ops-ops_before-requires-clause-few
last_ops-ops_before-requires-clause-few c =
    let d = c.args.self.now in
    let valid = subst IsValid c.self.view_is c.self.invariant.valid in
    let z = sizes_are d c.args.failed.0 c.args.expanded.now c.requires.begun c.requires.adds c.requires.earlier c.requires.undone c.requires.few valid in
    let same = ap (λ (x : ScriptData). x.trees) c.self.view_is in
    omega (arith, ap last_ops (c.deref-2.ensures.value ∙ same), z.few_ops_before)

pub count_ops-ops_after-requires : goal.count_ops-ops_after-requires
count_ops-ops_after-requires c =
    let d = c.args.self.now in
    let valid = subst IsValid c.self.view_is c.self.invariant.valid in
    let z = sizes_are d c.args.failed.0 c.args.expanded.now c.requires.begun c.requires.adds c.requires.earlier c.requires.undone c.requires.few valid in
    let same = ap (λ (x : ScriptData). x.trees) c.self.view_is in
    omega (arith, z.few_ops_after)

pub overflow_sub-result : goal.overflow_sub-result
overflow_sub-result c =
    let d = c.args.self.now in
    let valid = subst IsValid c.self.view_is c.self.invariant.valid in
    let z = sizes_are d c.args.failed.0 c.args.expanded.now c.requires.begun c.requires.adds c.requires.earlier c.requires.undone c.requires.few valid in
    let same = ap (λ (x : ScriptData). x.trees) c.self.view_is in
    let before : c.last_subs-before.result ≡ last_subs d.trees = c.last_subs-before.ensures ∙ ap last_subs (c.deref.ensures.value ∙ same) in
    let subs_now : c.self.inside.subs ≡ all_subs d.trees = c.self.invariant.subs ∙ ap all_subs same in
    omega (arith, before, subs_now, z.subs)

pub overflow_sub-result-2 : goal.overflow_sub-result-2
overflow_sub-result-2 c =
    let d = c.args.self.now in
    let valid = subst IsValid c.self.view_is c.self.invariant.valid in
    let z = sizes_are d c.args.failed.0 c.args.expanded.now c.requires.begun c.requires.adds c.requires.earlier c.requires.undone c.requires.few valid in
    let same = ap (λ (x : ScriptData). x.trees) c.self.view_is in
    let ops_before : c.last_ops-ops_before.result ≡ last_ops d.trees = c.last_ops-ops_before.ensures ∙ ap last_ops (c.deref-2.ensures.value ∙ same) in
    let ops_now : c.self.inside.ops ≡ all_ops d.trees = c.self.invariant.ops ∙ ap all_ops same in
    omega (arith, ops_before, ops_now, z.ops)

pub overflow_sub-result-3 : goal.overflow_sub-result-3
overflow_sub-result-3 c =
    let d = c.args.self.now in
    let valid = subst IsValid c.self.view_is c.self.invariant.valid in
    let z = sizes_are d c.args.failed.0 c.args.expanded.now c.requires.begun c.requires.adds c.requires.earlier c.requires.undone c.requires.few valid in
    let same = ap (λ (x : ScriptData). x.trees) c.self.view_is in
    let before : c.last_subs-before.result ≡ last_subs d.trees = c.last_subs-before.ensures ∙ ap last_subs (c.deref.ensures.value ∙ same) in
    let updates_now : c.self.inside.update_subs ≡ update_subs d.trees = c.self.invariant.update_subs ∙ ap update_subs same in
    omega (arith, before, updates_now, z.updates)

pub overflow_add-result-2 : goal.overflow_add-result-2
overflow_add-result-2 c =
    let d = c.args.self.now in
    let valid = subst IsValid c.self.view_is c.self.invariant.valid in
    let z = sizes_are d c.args.failed.0 c.args.expanded.now c.requires.begun c.requires.adds c.requires.earlier c.requires.undone c.requires.few valid in
    let same = ap (λ (x : ScriptData). x.trees) c.self.view_is in
    let ops_now : c.self.inside.ops ≡ all_ops d.trees = c.self.invariant.ops ∙ ap all_ops same in
    omega (arith, ops_now, z.few_ops_after, c.count_ops-ops_after.ensures, valid.limited.subs, valid.limited.ops, few_updates d.trees)

pub overflow_add-result-3 : goal.overflow_add-result-3
overflow_add-result-3 c =
    let d = c.args.self.now in
    let valid = subst IsValid c.self.view_is c.self.invariant.valid in
    let z = sizes_are d c.args.failed.0 c.args.expanded.now c.requires.begun c.requires.adds c.requires.earlier c.requires.undone c.requires.few valid in
    let same = ap (λ (x : ScriptData). x.trees) c.self.view_is in
    let updates_now : c.self.inside.update_subs ≡ update_subs d.trees = c.self.invariant.update_subs ∙ ap update_subs same in
    omega (arith, updates_now, c.requires.few, valid.limited.subs, valid.limited.ops, few_updates d.trees)

pub returns-clause-subs : goal.returns-clause-subs
returns-clause-subs c =
    let d = c.args.self.now in
    let valid = subst IsValid c.self.view_is c.self.invariant.valid in
    let z = sizes_are d c.args.failed.0 c.args.expanded.now c.requires.begun c.requires.adds c.requires.earlier c.requires.undone c.requires.few valid in
    let same = ap (λ (x : ScriptData). x.trees) c.self.view_is in
    let before : c.last_subs-before.result ≡ last_subs d.trees = c.last_subs-before.ensures ∙ ap last_subs (c.deref.ensures.value ∙ same) in
    let subs_now : c.self.inside.subs ≡ all_subs d.trees = c.self.invariant.subs ∙ ap all_subs same in
    omega (arith, before, subs_now, z.subs)

pub returns-clause-ops : goal.returns-clause-ops
returns-clause-ops c =
    let d = c.args.self.now in
    let valid = subst IsValid c.self.view_is c.self.invariant.valid in
    let z = sizes_are d c.args.failed.0 c.args.expanded.now c.requires.begun c.requires.adds c.requires.earlier c.requires.undone c.requires.few valid in
    let same = ap (λ (x : ScriptData). x.trees) c.self.view_is in
    let ops_before : c.last_ops-ops_before.result ≡ last_ops d.trees = c.last_ops-ops_before.ensures ∙ ap last_ops (c.deref-2.ensures.value ∙ same) in
    let ops_now : c.self.inside.ops ≡ all_ops d.trees = c.self.invariant.ops ∙ ap all_ops same in
    omega (arith, ops_before, ops_now, z.ops, c.count_ops-ops_after.ensures)

pub returns-clause-update_subs : goal.returns-clause-update_subs
returns-clause-update_subs c =
    let d = c.args.self.now in
    let valid = subst IsValid c.self.view_is c.self.invariant.valid in
    let z = sizes_are d c.args.failed.0 c.args.expanded.now c.requires.begun c.requires.adds c.requires.earlier c.requires.undone c.requires.few valid in
    let same = ap (λ (x : ScriptData). x.trees) c.self.view_is in
    let before : c.last_subs-before.result ≡ last_subs d.trees = c.last_subs-before.ensures ∙ ap last_subs (c.deref.ensures.value ∙ same) in
    let updates_now : c.self.inside.update_subs ≡ update_subs d.trees = c.self.invariant.update_subs ∙ ap update_subs same in
    omega (arith, before, updates_now, z.updates)
