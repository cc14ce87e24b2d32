use Rattle.csv.specs.Records.{fields_of}
use Rattle.script_reader.specs.Words.{may_be_first}
use Rattle.script_reader.proofs.Passing.{row_is}
use Rattle.script_reader.proofs.rows.first_word.Goals as goal

pub returns : goal.returns
returns c = row_is may_be_first (fields_of c.args.row.now) _ _ _ _ c.field.ensures c.len.ensures c.row_word.ensures c.first_by.ensures
