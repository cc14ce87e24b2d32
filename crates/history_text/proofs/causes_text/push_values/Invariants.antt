use Rattle.std.proofs.Common.{◌≡◌, ◌++◌, drop}
use Rattle.std.specs.Io.{StartsWith}
use Rattle.history_text.specs.TreeNames.{got_text}
use Rattle.history_text.proofs.causes_text.push_values.Given as goal

abbrev pub invariant-loop-one : goal.invariant-loop-one
invariant-loop-one l = record {
  whole : l.text ++ got_text l.script (drop l.one-index l.got) ≡ l.initial.text ++ got_text l.script l.got;
  front : StartsWith l.text l.initial.text;
}
