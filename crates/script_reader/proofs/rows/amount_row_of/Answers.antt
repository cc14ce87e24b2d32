use Rattle.std.proofs.Common.{ap, sym, subst, Result, ◌∙◌}
use Rattle.tx_trees.specs.ScriptData.{ScriptData}
use Rattle.tx_trees.specs.declared.why.Why.{Why}
use Rattle.script_reader.specs.Rows.{deed_of}
use Rattle.script_reader.specs.inside.Rows.{Leaves}
use Rattle.script_reader.proofs.Passing.{amount_row_is, passed_as}
use Rattle.script_reader.proofs.rows.amount_row_of.Goals as goal

pub returns : goal.returns
returns c =
    let h = c.in-Some.ensures in
    let deed = c.deed_of.ensures ∙ ap (deed_of c.args.word) (passed_as c.in-Some.amount h.small) in
    let e = amount_row_is c.args.script.now c.args.word c.args.item.now c.args.number.now c.in-Some.amount c.deed_of.result h.value deed in
    subst (λ (r : Result ScriptData Why). Leaves r c.op_row_of.result c.op_row_of.new.script) (sym e) c.op_row_of.ensures
