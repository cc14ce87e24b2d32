use Rattle.std.proofs.Common.{◌≡◌, take}
use Rattle.letter_types.proofs.acts.copy_acts.Given as goal

abbrev pub invariant-loop-act : goal.invariant-loop-act
invariant-loop-act l = l.copy.items ≡ take l.act-index l.items
