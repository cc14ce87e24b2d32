use Rattle.std.proofs.Common.{◌≡◌, take}
use Rattle.item_versions.proofs.item.copy_all.Given as goal

abbrev pub invariant-loop-entry : goal.invariant-loop-entry
invariant-loop-entry l = l.held.items ≡ take l.entry-index l.items
