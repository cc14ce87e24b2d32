use Rattle.std.proofs.Common.{◌≡◌, ◌++◌, drop}
use Rattle.script_reader.specs.Written.{lines, subs_rows}
use Rattle.script_reader.proofs.writing.push_subs.Given as goal

abbrev pub invariant-loop-sub : goal.invariant-loop-sub
invariant-loop-sub l = l.text ++ lines (subs_rows l.items (drop l.sub-index l.subs)) ≡ l.initial.text ++ lines (subs_rows l.items l.subs)
