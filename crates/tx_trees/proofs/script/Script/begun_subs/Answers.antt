use Rattle.std.proofs.Common.{◌≡◌, ◌-◌, true, suc, length, sym, ap, ◌∙◌, subst, arith}
use Rattle.script_parts.specs.Adding.{last_subs, last_tree_subs}
use Rattle.script_parts.specs.ScriptData.{ScriptData}
use Rattle.tx_trees.specs.Inside.{script_data}
use Rattle.tx_trees.proofs.Undoing.{last_subs_here}
use Rattle.tx_trees.proofs.script.Script.begun_subs.Goals as goal

pub returns-clause-subs : goal.returns-clause-subs
returns-clause-subs c =
    let s = c.self.inside in
    let begun = subst (λ (d : ScriptData). d.begun ≡ true) (sym c.self.view_is) c.requires in
    let e : suc (c.len.result - 1) ≡ length s.trees.items = omega (arith, c.len.ensures, c.self.invariant.valid.begun begun) in
    (last_subs_here (script_data s) (c.len.result - 1) c.index.result.now e c.index.ensures c.self.invariant.valid).same ∙ ap (λ (d : ScriptData). last_tree_subs d.trees) c.self.view_is

pub returns-clause-count : goal.returns-clause-count
returns-clause-count c =
    let s = c.self.inside in
    let begun = subst (λ (d : ScriptData). d.begun ≡ true) (sym c.self.view_is) c.requires in
    let e : suc (c.len.result - 1) ≡ length s.trees.items = omega (arith, c.len.ensures, c.self.invariant.valid.begun begun) in
    (last_subs_here (script_data s) (c.len.result - 1) c.index.result.now e c.index.ensures c.self.invariant.valid).count ∙ ap (λ (d : ScriptData). last_subs d.trees) c.self.view_is

pub returns-clause-few : goal.returns-clause-few
returns-clause-few c =
    let s = c.self.inside in
    let begun = subst (λ (d : ScriptData). d.begun ≡ true) (sym c.self.view_is) c.requires in
    let e : suc (c.len.result - 1) ≡ length s.trees.items = omega (arith, c.len.ensures, c.self.invariant.valid.begun begun) in
    (last_subs_here (script_data s) (c.len.result - 1) c.index.result.now e c.index.ensures c.self.invariant.valid).few

pub returns-clause-small : goal.returns-clause-small
returns-clause-small c =
    let s = c.self.inside in
    let begun = subst (λ (d : ScriptData). d.begun ≡ true) (sym c.self.view_is) c.requires in
    let e : suc (c.len.result - 1) ≡ length s.trees.items = omega (arith, c.len.ensures, c.self.invariant.valid.begun begun) in
    (last_subs_here (script_data s) (c.len.result - 1) c.index.result.now e c.index.ensures c.self.invariant.valid).small
