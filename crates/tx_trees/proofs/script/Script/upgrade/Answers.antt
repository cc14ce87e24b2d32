use Rattle.tx_trees.proofs.Kept.{kept_upgraded}
use Rattle.tx_trees.proofs.script.Script.upgrade.Goals as goal

pub invariant_of-self : goal.invariant_of-self
invariant_of-self c = kept_upgraded c.self.inside c.self.invariant
