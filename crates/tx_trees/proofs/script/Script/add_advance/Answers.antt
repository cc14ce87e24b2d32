use Rattle.std.proofs.Common.{arith, refl}
use Rattle.tx_trees.proofs.Kept.{kept_advance}
use Rattle.tx_trees.proofs.script.Script.add_advance.Goals as goal

pub invariant_of-self-2 : goal.invariant_of-self-2
invariant_of-self-2 c = kept_advance c.self.inside c.push.new.self _ c.in_ok-push.ensures.items refl (omega (arith, c.if-self-ge-MOST_ADVANCES.false)) c.self.invariant
