use Rattle.std.proofs.Common.{◌≡◌, take}
use Rattle.letter_types.proofs.entries.copy_letters.Given as goal

abbrev pub invariant-loop-letter : goal.invariant-loop-letter
invariant-loop-letter l = l.copy.items ≡ take l.letter-index l.items
