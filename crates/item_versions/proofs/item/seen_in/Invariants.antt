use Rattle.std.proofs.Common.{◌≡◌, Some, drop}
use Rattle.item_versions.specs.Item.{seen, seen_after}
use Rattle.item_versions.proofs.item.seen_in.Given as goal

-- what is seen so far, and what is still to come
abbrev pub invariant-loop-entry : goal.invariant-loop-entry
invariant-loop-entry l =
    seen l.v l.items ≡ Some (seen_after l.seen l.v (drop l.entry-index l.items))
