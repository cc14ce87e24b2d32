use Rattle.script_reader.proofs.Whole.{all_records}
use Rattle.script_reader.proofs.reading.read_script.Goals as goal

pub returns-clause-whole : goal.returns-clause-whole
returns-clause-whole c = all_records c.args.bytes.now

pub returns-then-bytes-gt-MOST_BYTES-clause-whole : goal.returns-then-bytes-gt-MOST_BYTES-clause-whole
returns-then-bytes-gt-MOST_BYTES-clause-whole c = all_records c.args.bytes.now
