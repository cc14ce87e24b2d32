use Rattle.std.proofs.Common.{◌≡◌, ◌++◌, drop, map}
use Rattle.script_reader.specs.Written.{item_fields, lines}
use Rattle.script_reader.proofs.writing.push_items.Given as goal

abbrev pub invariant-loop-row : goal.invariant-loop-row
invariant-loop-row l = l.text ++ lines (map item_fields (drop l.row-index l.items)) ≡ l.initial.text ++ lines (map item_fields l.items)
