use Rattle.std.proofs.Common.{◌≡◌, ◌++◌, drop, map}
use Rattle.run_history.specs.Messages.{outgoing_of}
use Rattle.history_text.specs.History.{sent_lines}
use Rattle.history_text.proofs.history_lines_text.push_sent.Given as goal

abbrev pub invariant-loop-letter : goal.invariant-loop-letter
invariant-loop-letter l =
    l.text ++ sent_lines l.script (map outgoing_of (drop l.letter-index l.sent)) ≡ l.initial.text ++ sent_lines l.script (map outgoing_of l.sent)
