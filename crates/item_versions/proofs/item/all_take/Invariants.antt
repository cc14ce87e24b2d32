use Rattle.std.proofs.Common.{◌≡◌, drop}
use Rattle.item_versions.specs.inside.StagedOps.{all_take}
use Rattle.item_versions.proofs.item.all_take.Given as goal

-- the rest decides
abbrev pub invariant-loop-entry : goal.invariant-loop-entry
invariant-loop-entry l =
    all_take l.v l.op l.most (drop l.entry-index l.items) ≡ all_take l.v l.op l.most l.items
