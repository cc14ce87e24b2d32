use Rattle.std.proofs.Common.{◌≡◌, ◌+◌, drop}
use Rattle.item_versions.specs.inside.Places.{item_place}
use Rattle.item_versions.proofs.table.staged_place.Given as goal

abbrev pub invariant-loop-i : goal.invariant-loop-i
invariant-loop-i l = l.i + item_place l.item (drop l.i l.entries) ≡ item_place l.item l.entries
