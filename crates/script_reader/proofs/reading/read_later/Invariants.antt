use Rattle.std.proofs.Common.{◌≡◌, ◌+◌, ◌≤◌, length}
use Rattle.script_reader.specs.Reading.{rows_from}
use Rattle.script_reader.proofs.reading.read_later.Given as goal

abbrev pub invariant-loop-script : goal.invariant-loop-script
invariant-loop-script l = record {
  so_far : rows_from l.fn.begun l.first l.fn.records ≡ rows_from l.script l.at l.records;
  small : l.at + length l.records ≤ 8388611;
}

abbrev pub decreases-loop-script : goal.decreases-loop-script
decreases-loop-script l = length l.records
