use Rattle.std.proofs.Common.{◌<◌, length, subst, sym, arith}
use Rattle.script_parts.specs.ScriptData.{ScriptData}
use Rattle.script_parts.proofs.Lists.{cell_is}
use Rattle.tx_trees.proofs.Kept.{one_put_small}
use Rattle.tx_trees.proofs.script.Script.has_no_op_left.Goals as goal

pub overflow_add-result : goal.overflow_add-result
overflow_add-result c =
    let s = c.self.inside in
    let h = c.self.invariant in
    let lt = subst (λ (d : ScriptData). c.args.item < length d.items) (sym c.self.view_is) c.requires in
    let cell = cell_is s.puts.items c.args.item c.index.result.now (omega (arith, h.puts_len)) c.index.ensures in
    omega (arith, cell, h.puts c.args.item lt, h.valid.limited.puts c.args.item lt, one_put_small c.args.deed, c.one_put.ensures)
