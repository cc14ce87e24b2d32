use Rattle.std.proofs.Common.{arith, ap, sym, ◌∙◌, subst, length, List}
use Rattle.std.proofs.lemmas.Bool.{not-true}
use Rattle.script_parts.specs.Adding.{last_tree_subs, with_failed}
use Rattle.script_parts.specs.Counts.{all_ops, all_subs, update_subs}
use Rattle.script_parts.specs.Loads.{MayReload}
use Rattle.script_parts.specs.inside.Passing.{MayFail}
use Rattle.script_parts.specs.ScriptData.{ScriptData}
use Rattle.script_parts.specs.declared.parts.Sub.{Sub}
use Rattle.script_parts.specs.declared.parts.Tree.{Tree}
use Rattle.script_parts.proofs.Loading.{new_totals}
use Rattle.tx_trees.proofs.Undoing.{failing_is, kept_failed, may_reload, own_totals, put_if_light, reloaded_totals}
use Rattle.tx_trees.proofs.script.Script.put_failed.Goals as goal

pub sizes_with-sizes-requires-clause-few : goal.sizes_with-sizes-requires-clause-few
sizes_with-sizes-requires-clause-few c =
    let q = failing_is c.self.inside c.args.self.now c.args.failed.0 c.args.expanded c.self.view_is c.self.invariant c.requires in
    omega (arith, q.few, ap (λ (x : List Sub). length x) c.items.ensures.items)

pub reload_last-requires-clause-may : goal.reload_last-requires-clause-may
reload_last-requires-clause-may c =
    let s = c.self.inside in
    let q = failing_is s c.args.self.now c.args.failed.0 c.args.expanded c.self.view_is c.self.invariant c.requires in
    subst (λ (x : List Tree). MayReload s.totals.items (last_tree_subs x) c.items-2.result.now) (sym c.deref.ensures.value)
    (subst (λ (x : List Sub). MayReload s.totals.items (last_tree_subs s.trees.items) x) (sym c.items-2.ensures.items) (may_reload s c.args.failed.0 c.args.expanded q))

pub returns-then-not-reload_last-clause-light : goal.returns-then-not-reload_last-clause-light
returns-then-not-reload_last-clause-light c =
    let s = c.self.inside in
    let k = c.args.failed.0 in
    let q = failing_is s c.args.self.now k c.args.expanded c.self.view_is c.self.invariant c.requires in
    let r = own_totals s k c.args.expanded q _ _ _ _ _ c.most_amount-most.ensures.most (ap last_tree_subs c.deref.ensures.value) c.items-2.ensures.items c.reload_last.ensures in
    sym c.if-not-reload_last.true ∙ put_if_light s k c.args.expanded q c.args.self.now _ _ c.self.view_is r

pub invariant_of-self-2 : goal.invariant_of-self-2
invariant_of-self-2 c =
    let s = c.self.inside in
    let k = c.args.failed.0 in
    let q = failing_is s c.args.self.now k c.args.expanded c.self.view_is c.self.invariant c.requires in
    let r = own_totals s k c.args.expanded q _ _ _ _ _ c.most_amount-most.ensures.most (ap last_tree_subs c.deref.ensures.value) c.items-2.ensures.items c.reload_last.ensures in
    let put = c.if-not-reload_last.false in
    let totals = reloaded_totals s k c.args.expanded q _ (new_totals _ _ _ _ _ _ r put) in
    let light = put_if_light s k c.args.expanded q c.args.self.now _ _ c.self.view_is r in
    let z = c.sizes_with-sizes.ensures in
    let m = c.requires in
    let may : MayFail c.args.self.now k = record { second = m.second; begun = m.begun; earlier = m.earlier; adds = m.adds; room = m.room; light = not-true _ (sym light ∙ put) } in
    kept_failed s c.fail_last.new.trees c.reload_last.new.totals k _ _ _ c.fail_last.ensures totals
    (z.subs ∙ ap (λ (d : ScriptData). all_subs (with_failed d k).trees) (sym c.self.view_is))
    (z.ops ∙ ap (λ (d : ScriptData). all_ops (with_failed d k).trees) (sym c.self.view_is))
    (z.update_subs ∙ ap (λ (d : ScriptData). update_subs (with_failed d k).trees) (sym c.self.view_is))
    (subst (λ (d : ScriptData). MayFail d k) (sym c.self.view_is) may) c.self.invariant

pub returns-clause-light : goal.returns-clause-light
returns-clause-light c =
    let s = c.self.inside in
    let k = c.args.failed.0 in
    let q = failing_is s c.args.self.now k c.args.expanded c.self.view_is c.self.invariant c.requires in
    let r = own_totals s k c.args.expanded q _ _ _ _ _ c.most_amount-most.ensures.most (ap last_tree_subs c.deref.ensures.value) c.items-2.ensures.items c.reload_last.ensures in
    sym c.if-not-reload_last.false ∙ put_if_light s k c.args.expanded q c.args.self.now _ _ c.self.view_is r
