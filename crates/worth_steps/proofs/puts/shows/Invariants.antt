use Rattle.std.proofs.Common.{◌≡◌, ◌≤◌, ◌++◌, drop, length, take}
use Rattle.worth_steps.specs.Puts.{shown_to}
use Rattle.worth_steps.proofs.puts.shows.Given as goal

abbrev pub invariant-loop-put : goal.invariant-loop-put
invariant-loop-put l = record {
  within : l.met ≤ length l.numbers;
  met : take l.met l.numbers ++ shown_to l.version.0 (drop l.put-index l.puts) ≡ shown_to l.version.0 l.puts;
}
