use Rattle.std.proofs.Common.{◌≡◌, drop}
use Rattle.item_versions.specs.Item.{holds}
use Rattle.item_versions.proofs.item.holds.Given as goal

-- the rest decides
abbrev pub invariant-loop-entry : goal.invariant-loop-entry
invariant-loop-entry l = holds l.v (drop l.entry-index l.items) ≡ holds l.v l.items
