use Rattle.std.proofs.Common.{length, ◌+◌}
use Rattle.script_reader.proofs.Taken.{few_rows}
use Rattle.script_reader.proofs.records.Records.new.Goals as goal

pub returns-clause-few : goal.returns-clause-few
returns-clause-few c = few_rows (length c.args.text.now + 1) c.from_reader.result
