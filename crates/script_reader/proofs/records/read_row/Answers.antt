use Rattle.csv.specs.Records.{fields_of}
use Rattle.script_reader.proofs.Taken.{row_read}
use Rattle.script_reader.proofs.records.read_row.Goals as goal

pub returns-in-Ok : goal.returns-in-Ok
returns-in-Ok c =
    row_read c.in-Ok.found c.args.reader.now c.read_byte_record.new.self (fields_of c.read_byte_record.new.row) c.requires c.in-Ok.ensures.reads c.in-Ok.ensures.ready
