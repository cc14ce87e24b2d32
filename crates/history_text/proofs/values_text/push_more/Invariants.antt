use Rattle.std.proofs.Common.{◌≡◌, ◌++◌, drop}
use Rattle.std.specs.Io.{StartsWith}
use Rattle.history_text.specs.Values.{more_numbers}
use Rattle.history_text.proofs.values_text.push_more.Given as goal

abbrev pub invariant-loop-number : goal.invariant-loop-number
invariant-loop-number l = record {
  whole : l.text ++ more_numbers (drop l.number-index l.numbers) ≡ l.initial.text ++ more_numbers l.numbers;
  front : StartsWith l.text l.initial.text;
}
