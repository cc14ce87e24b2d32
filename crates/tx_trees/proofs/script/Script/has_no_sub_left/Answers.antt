use Rattle.std.proofs.Common.{arith}
use Rattle.tx_trees.proofs.Kept.{few_updates, one_update_small}
use Rattle.tx_trees.proofs.script.Script.has_no_sub_left.Goals as goal

pub overflow_add-self-inside : goal.overflow_add-self-inside
overflow_add-self-inside c =
    let h = c.self.invariant in
    omega (arith, few_updates c.self.inside.trees.items, h.valid.limited.subs, h.update_subs, one_update_small c.last_kind.result, c.one_update.ensures)
