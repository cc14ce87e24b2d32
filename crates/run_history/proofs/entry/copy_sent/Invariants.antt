use Rattle.std.proofs.Common.{◌≡◌, map, take}
use Rattle.run_history.specs.Messages.{outgoing_of}
use Rattle.run_history.proofs.entry.copy_sent.Given as goal

abbrev pub invariant-loop-letter : goal.invariant-loop-letter
invariant-loop-letter l = l.copy ≡ map outgoing_of (take l.letter-index l.sent)
