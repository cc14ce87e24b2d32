use Rattle.std.proofs.Common.{◌≡◌, ◌-◌, true, suc, length, sym, ap, ◌∙◌, subst, arith}
use Rattle.script_parts.specs.Adding.{last_may_fail}
use Rattle.script_parts.specs.ScriptData.{ScriptData}
use Rattle.script_parts.proofs.Last.{last_at}
use Rattle.tx_trees.proofs.Undoing.{last_may_fail_is}
use Rattle.tx_trees.proofs.script.Script.begun_may_fail.Goals as goal

pub returns : goal.returns
returns c =
    let s = c.self.inside in
    let begun = subst (λ (d : ScriptData). d.begun ≡ true) (sym c.self.view_is) c.requires in
    let e : suc (c.len.result - 1) ≡ length s.trees.items = omega (arith, c.len.ensures, c.self.invariant.valid.begun begun) in
    let t = c.index.result.now in
    c.may_fail.ensures ∙ sym (last_may_fail_is s.trees.items t (last_at s.trees.items _ t e c.index.ensures)) ∙ ap (λ (d : ScriptData). last_may_fail d.trees) c.self.view_is
