use Rattle.std.proofs.Common.{◌≡◌, ◌++◌, length}
use Rattle.history_reader.specs.inside.BodyWords.{AreLineWords, number_words}
use Rattle.history_reader.proofs.votes.read_numbers.Given as goal

abbrev pub invariant-loop-word : goal.invariant-loop-word
invariant-loop-word l = record { words : l.initial.words ≡ number_words l.row ++ l.words; small : AreLineWords l.row }

abbrev pub decreases-loop-word : goal.decreases-loop-word
decreases-loop-word l = length l.words
