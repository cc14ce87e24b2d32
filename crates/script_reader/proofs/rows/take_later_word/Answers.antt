use Rattle.std.proofs.Common.{sym, subst, Result}
use Rattle.csv.specs.Records.{fields_of}
use Rattle.tx_trees.specs.ScriptData.{ScriptData}
use Rattle.tx_trees.specs.declared.why.Why.{Why}
use Rattle.script_reader.specs.inside.Rows.{Leaves}
use Rattle.script_reader.proofs.Passing.{amount_form_is, fail_form_is, get_form_is, item_form_is, sub_form_is, tree_form_is}
use Rattle.script_reader.proofs.rows.take_later_word.Goals as goal

pub returns-in-Item : goal.returns-in-Item
returns-in-Item c =
    let f = item_form_is c.args.script.now (fields_of c.args.row.now) _ _ _ _ _ c.in-Item.is c.field.ensures c.field-in-Item.ensures c.field-in-Item-2.ensures c.field-in-Item-3.ensures in
    subst (λ (r : Result ScriptData Why). Leaves r c.item_row_of.result c.item_row_of.new.script) (sym f) c.item_row_of.ensures

pub returns-in-Op : goal.returns-in-Op
returns-in-Op c =
    let f = amount_form_is c.args.script.now (fields_of c.args.row.now) _ _ _ _ c.in-Op.is c.field-in-Op.ensures c.field-in-Op-2.ensures in
    subst (λ (r : Result ScriptData Why). Leaves r c.amount_row_of.result c.amount_row_of.new.script) (sym f) c.amount_row_of.ensures

pub returns-in-Get : goal.returns-in-Get
returns-in-Get c =
    let f = get_form_is c.args.script.now (fields_of c.args.row.now) _ _ c.in-Get.is c.field-in-Get.ensures in
    subst (λ (r : Result ScriptData Why). Leaves r c.op_row_of.result c.op_row_of.new.script) (sym f) c.op_row_of.ensures

pub returns-in-Tree : goal.returns-in-Tree
returns-in-Tree c =
    let f = tree_form_is c.args.script.now (fields_of c.args.row.now) _ _ _ _ c.in-Tree.is c.field-in-Tree.ensures c.field-in-Tree-2.ensures in
    subst (λ (r : Result ScriptData Why). Leaves r c.tree_row_of.result c.tree_row_of.new.script) (sym f) c.tree_row_of.ensures

pub returns-in-Sub : goal.returns-in-Sub
returns-in-Sub c =
    let f = sub_form_is c.args.script.now (fields_of c.args.row.now) _ _ _ c.in-Sub.is c.field-in-Sub.ensures c.field-in-Sub-2.ensures in
    subst (λ (r : Result ScriptData Why). Leaves r c.sub_row_of.result c.sub_row_of.new.script) (sym f) c.sub_row_of.ensures

pub returns-in-Fail : goal.returns-in-Fail
returns-in-Fail c =
    let f = fail_form_is c.args.script.now (fields_of c.args.row.now) _ _ c.in-Fail.is c.field-in-Fail.ensures in
    subst (λ (r : Result ScriptData Why). Leaves r c.fail_row_of.result c.fail_row_of.new.script) (sym f) c.fail_row_of.ensures
