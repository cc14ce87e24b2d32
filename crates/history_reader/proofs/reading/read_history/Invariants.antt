use Rattle.std.proofs.Common.{◌≡◌, length}
use Rattle.history_reader.specs.Walks.{IsWalked}
use Rattle.history_reader.proofs.reading.read_history.Given as goal

abbrev pub invariant-entries : goal.invariant-entries
invariant-entries l = record {
  script : l.walk.script ≡ l.script;
  walked : IsWalked l.script l.text l.history l.walk;
}

abbrev pub decreases-entries : goal.decreases-entries
decreases-entries l = length l.walk.rest
