use Rattle.std.proofs.Common.{◌≡◌, ◌++◌, drop, map}
use Rattle.script_reader.specs.Written.{lines, pick_fields}
use Rattle.script_reader.proofs.writing.push_picks.Given as goal

abbrev pub invariant-loop-pick : goal.invariant-loop-pick
invariant-loop-pick l = l.text ++ lines (map pick_fields (drop l.pick-index l.picks)) ≡ l.initial.text ++ lines (map pick_fields l.picks)
