use Rattle.std.proofs.Common.{List, length}
use Rattle.std.specs.Prelude.{sum_by}
use Rattle.letter_types.specs.declared.entries.Entry.{Entry}
use Rattle.history_merge.specs.Recording.{Records}
use Rattle.history_merge.proofs.recorder.Recorder.advance.Given as goal

abbrev pub invariant-loop : goal.invariant-loop
invariant-loop g l = (es : List Entry) × Records es l.initial.self l.self

abbrev pub decreases-loop : goal.decreases-loop
decreases-loop g l = sum_by (length {A = Entry}) l.self.waiting
