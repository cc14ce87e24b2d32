use Rattle.std.proofs.Common.{◌≡◌, ◌++◌, length}
use Rattle.history_text.specs.Words.{AllAmounts, amount_words}
use Rattle.history_text.proofs.values_read.read_amounts.Given as goal

abbrev pub invariant-loop-part : goal.invariant-loop-part
invariant-loop-part l = record { parts : l.initial.parts ≡ amount_words l.numbers ++ l.parts; amounts : AllAmounts l.numbers }

abbrev pub decreases-loop-part : goal.decreases-loop-part
decreases-loop-part l = length l.parts
