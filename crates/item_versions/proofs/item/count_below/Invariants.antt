use Rattle.std.proofs.Common.{◌≡◌, ◌+◌, ◌≤◌, drop, length}
use Rattle.item_versions.specs.Item.{below}
use Rattle.item_versions.proofs.item.count_below.Given as goal

abbrev pub invariant-loop-entry : goal.invariant-loop-entry
invariant-loop-entry l = record {
  few : l.count ≤ l.entry-index;
  counted : l.count + length (below l.v (drop l.entry-index l.items)) ≡ length (below l.v l.items);
}
