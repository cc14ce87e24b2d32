use Rattle.tv_base.specs.declared.numbers.SubNo.{SubNo}
use Rattle.script_reader.proofs.Passing.{clamped, passed_on, sub_row_is}
use Rattle.script_reader.proofs.rows.sub_row_of.Goals as goal

pub returns-in_err-add_sub : goal.returns-in_err-add_sub
returns-in_err-add_sub c =
    let same = clamped c.in-Some.parent c.min-parent.result c.min-parent.ensures in
    let e = sub_row_is c.args.script.now c.args.parent.now c.args.node.now c.in-Some.parent c.in-Some-number.node c.min-parent.result c.in-Some.ensures.value c.in-Some-number.ensures.value c.nodes.ensures.valid same in
    passed_on SubNo _ _ _ c.from_residual.result _ _ c.from_residual.ensures.1 e c.in_err-add_sub.ensures.step
