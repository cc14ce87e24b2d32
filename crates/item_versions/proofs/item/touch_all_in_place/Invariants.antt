use Rattle.std.proofs.Common.{◌≡◌, ◌++◌, take, drop}
use Rattle.item_versions.specs.Item.{held_in_place}
use Rattle.item_versions.proofs.item.touch_all_in_place.Given as goal

-- what is done, and what is still to come
abbrev pub invariant-loop-entry : goal.invariant-loop-entry
invariant-loop-entry l =
    take l.entry-index l.items ++ held_in_place l.v l.op (drop l.entry-index l.items)
    ≡ held_in_place l.v l.op l.initial.items
