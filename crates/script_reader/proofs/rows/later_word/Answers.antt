use Rattle.csv.specs.Records.{fields_of}
use Rattle.script_reader.specs.Words.{may_follow}
use Rattle.script_reader.proofs.Passing.{row_is}
use Rattle.script_reader.proofs.rows.later_word.Goals as goal

pub returns : goal.returns
returns c = row_is (may_follow c.args.form) (fields_of c.args.row.now) _ _ _ _ c.field.ensures c.len.ensures c.row_word.ensures c.later_by.ensures
