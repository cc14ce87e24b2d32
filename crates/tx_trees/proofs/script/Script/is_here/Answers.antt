use Rattle.std.proofs.Common.{◌≡◌, ap, subst, sym, arith, true}
use Rattle.script_parts.specs.ScriptData.{ScriptData}
use Rattle.script_parts.specs.Adding.{last_subs}
use Rattle.tx_trees.proofs.Stays.{some_last_subs}
use Rattle.tx_trees.proofs.script.Script.is_here.Goals as goal

pub last_node-requires-clause-subs : goal.last_node-requires-clause-subs
last_node-requires-clause-subs c =
    let h = c.self.invariant.valid in
    let begun = subst (λ (d : ScriptData). d.begun ≡ true) (sym c.self.view_is) c.requires.begun in
    omega (arith, some_last_subs _ _ _ h.trees (h.begun begun), ap last_subs c.deref-2.ensures.value)
