use Rattle.std.proofs.Common.{◌≡◌, take}
use Rattle.history_text.specs.Numbers.{ascending_of}
use Rattle.history_text.proofs.values_read.bag_of.Given as goal

abbrev pub invariant-loop-number : goal.invariant-loop-number
invariant-loop-number l = l.bag ≡ ascending_of (take l.number-index l.numbers)
