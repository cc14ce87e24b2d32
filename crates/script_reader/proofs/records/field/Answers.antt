use Rattle.std.proofs.Common.{ap, ◌∙◌}
use Rattle.csv.specs.Records.{fields_of}
use Rattle.script_reader.proofs.Fields.{field_at_is, or_nothing}
use Rattle.script_reader.proofs.records.field.Goals as goal

pub returns-in-Some : goal.returns-in-Some
returns-in-Some c = ap or_nothing c.in-Some.ensures.value ∙ field_at_is (fields_of c.args.row.now) c.args.i

pub returns-in-None : goal.returns-in-None
returns-in-None c = ap or_nothing c.in-None.ensures.value ∙ field_at_is (fields_of c.args.row.now) c.args.i
