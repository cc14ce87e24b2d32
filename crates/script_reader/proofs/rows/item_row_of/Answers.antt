use Rattle.std.proofs.Common.{sym, subst, Result, ℤ}
use Rattle.tx_trees.specs.ScriptData.{ScriptData}
use Rattle.tx_trees.specs.declared.why.Why.{Why}
use Rattle.script_reader.specs.Rows.{item_of}
use Rattle.script_reader.specs.inside.Rows.{Leaves}
use Rattle.script_reader.proofs.Passing.{item_row_is, passed_as}
use Rattle.script_reader.proofs.rows.item_row_of.Goals as goal

pub returns : goal.returns
returns c =
    let s = c.args.script.now in
    let h = c.in-Some-amount.ensures in
    let e = item_row_is s c.args.name.now c.args.node.now c.args.kind.now c.args.initial.now c.in-Some.node c.kind_of.result c.in-Some-amount.initial c.in-Some.ensures.value c.kind_of.ensures h.value in
    let step = subst (λ (a : ℤ). Leaves (item_of s c.args.name.now c.in-Some.node c.kind_of.result a) c.add_item_of.result c.add_item_of.new.script) (passed_as c.in-Some-amount.initial h.small) c.add_item_of.ensures in
    subst (λ (r : Result ScriptData Why). Leaves r c.add_item_of.result c.add_item_of.new.script) (sym e) step
