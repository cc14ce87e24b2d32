use Rattle.script_reader.proofs.Passing.{leaves, op_row_is}
use Rattle.script_reader.proofs.rows.op_row_of.Goals as goal

pub returns : goal.returns
returns c =
    let h = c.in-Some.ensures in
    let e = op_row_is c.args.script.now c.args.item.now c.in-Some.item c.args.deed h.0 h.1 h.2 in
    leaves _ _ c.add_op.result c.args.script.now c.add_op.new.self e c.add_op.ensures
