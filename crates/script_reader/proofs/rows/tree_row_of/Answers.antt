use Rattle.tv_base.specs.declared.numbers.TreeNo.{TreeNo}
use Rattle.script_reader.proofs.Passing.{passed_on, tree_row_is}
use Rattle.script_reader.proofs.rows.tree_row_of.Goals as goal

pub returns-in_err-add_tree : goal.returns-in_err-add_tree
returns-in_err-add_tree c =
    let h = c.in-Some-name_of.ensures in
    let e = tree_row_is c.args.script.now c.args.kind c.args.name.now c.args.node.now c.in-Some-name_of.name c.in-Some.node c.in-Some.ensures.value h in
    passed_on TreeNo _ _ _ c.from_residual.result _ _ c.from_residual.ensures.1 e c.in_err-add_tree.ensures.step
