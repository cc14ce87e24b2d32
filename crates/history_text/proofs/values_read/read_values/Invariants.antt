use Rattle.std.proofs.Common.{◌≡◌, ◌++◌, length}
use Rattle.history_text.specs.Printable.{AreGot}
use Rattle.history_text.specs.Words.{got_words}
use Rattle.history_text.proofs.values_read.read_values.Given as goal

abbrev pub invariant-loop-word : goal.invariant-loop-word
invariant-loop-word l = record { words : l.words ≡ got_words l.script l.values ++ l.left; got : AreGot l.script l.values }

abbrev pub decreases-loop-word : goal.decreases-loop-word
decreases-loop-word l = length l.left
