use Rattle.std.proofs.Common.{◌≡◌, drop}
use Rattle.item_versions.specs.Item.{may_apply_above}
use Rattle.item_versions.proofs.item.may_apply_above.Given as goal

-- the rest decides
abbrev pub invariant-loop-entry : goal.invariant-loop-entry
invariant-loop-entry l =
    may_apply_above l.v l.op (drop l.entry-index l.items) ≡ may_apply_above l.v l.op l.items
