use Rattle.std.proofs.Common.{◌≡◌, vec_len}
use Rattle.item_versions.specs.Table.{IsTable}
use Rattle.item_versions.specs.inside.StagedOps.{copied_over}
use Rattle.item_versions.proofs.table.put_copies.Given as goal

-- the table with the copies that are left stays, and it is one
abbrev pub invariant-loop-item : goal.invariant-loop-item
invariant-loop-item l = record {
  same : copied_over l.copies.items l.entries.items ≡ copied_over l.initial.copies.items l.initial.entries.items;
  up : IsTable l.entries.items;
}

abbrev pub decreases-loop-item : goal.decreases-loop-item
decreases-loop-item l = vec_len l.copies
