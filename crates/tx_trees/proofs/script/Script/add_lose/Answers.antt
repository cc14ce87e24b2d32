use Rattle.std.proofs.Common.{arith, refl, ap, ◌∙◌}
use Rattle.script_parts.specs.ScriptData.{ScriptData}
use Rattle.tx_trees.proofs.Kept.{kept_lose}
use Rattle.tx_trees.proofs.script.Script.add_lose.Goals as goal

pub invariant_of-self-2 : goal.invariant_of-self-2
invariant_of-self-2 c =
    kept_lose c.self.inside c.push.new.self _ c.in_ok-push.ensures.items refl (omega (arith, c.if-self-ge-MOST_LOSES.false)) (ap (λ (d : ScriptData). d.form) c.self.view_is ∙ c.requires) c.self.invariant
