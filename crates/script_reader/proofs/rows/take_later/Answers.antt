use Rattle.std.proofs.Common.{sym, subst, Result}
use Rattle.csv.specs.Records.{fields_of}
use Rattle.tx_trees.specs.ScriptData.{ScriptData}
use Rattle.tx_trees.specs.declared.why.Why.{Why}
use Rattle.script_reader.specs.inside.Rows.{Leaves}
use Rattle.script_reader.proofs.Passing.{later_is, later_refused, second_fails, second_loses}
use Rattle.script_reader.proofs.rows.take_later.Goals as goal

pub take_later_word-requires-clause-lose : goal.take_later_word-requires-clause-lose
take_later_word-requires-clause-lose c = λ lose. second_loses c.args.script.now (fields_of c.args.row.now) _ _ c.form.ensures c.in-Ok.ensures lose

pub take_later_word-requires-clause-fail : goal.take_later_word-requires-clause-fail
take_later_word-requires-clause-fail c = λ fails. second_fails c.args.script.now (fields_of c.args.row.now) _ _ c.form.ensures c.in-Ok.ensures fails

pub returns-in-Ok : goal.returns-in-Ok
returns-in-Ok c =
    let e = later_is c.args.script.now (fields_of c.args.row.now) _ _ c.form.ensures c.in-Ok.ensures in
    subst (λ (r : Result ScriptData Why). Leaves r c.take_later_word.result c.take_later_word.new.script) (sym e) c.take_later_word.ensures

pub returns-in-Err : goal.returns-in-Err
returns-in-Err c = later_refused c.args.script.now (fields_of c.args.row.now) _ _ c.form.ensures c.in-Err.ensures
