use Rattle.tx_trees.proofs.Kept.{kept_settle}
use Rattle.tx_trees.proofs.script.Script.add_settle.Goals as goal

pub invariant_of-self-2 : goal.invariant_of-self-2
invariant_of-self-2 c = kept_settle c.self.inside c.push.new.self c.in_ok-push.ensures.items c.self.invariant
