use Rattle.std.proofs.Common.{◌≡◌, take}
use Rattle.letter_types.proofs.bodies.copy_row.Given as goal

abbrev pub invariant-loop-number : goal.invariant-loop-number
invariant-loop-number l = l.copy ≡ take l.number-index l.number-items
