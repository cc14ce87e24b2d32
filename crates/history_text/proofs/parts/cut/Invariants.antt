use Rattle.std.proofs.Common.{◌≡◌, take, true}
use Rattle.history_text.specs.Parts.{lacks}
use Rattle.history_text.proofs.parts.cut.Given as goal

abbrev pub invariant-loop-i : goal.invariant-loop-i
invariant-loop-i l = lacks l.byte (take l.i l.text) ≡ true
