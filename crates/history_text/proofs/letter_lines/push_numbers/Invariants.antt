use Rattle.std.proofs.Common.{◌≡◌, ◌++◌, drop}
use Rattle.std.specs.Prelude.{codes, flat_map}
use Rattle.history_text.specs.Values.{count_text}
use Rattle.history_text.proofs.letter_lines.push_numbers.Given as goal

abbrev pub invariant-loop-number : goal.invariant-loop-number
invariant-loop-number l = l.text ++ flat_map (count_text (codes " ")) (drop l.number-index l.numbers) ≡ l.initial.text ++ flat_map (count_text (codes " ")) l.numbers
