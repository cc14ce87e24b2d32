use Rattle.std.proofs.Common.{◌≡◌, ◌++◌, ◌+◌, ◌≤◌, length}
use Rattle.arrayvec.specs.ArrayVec.{array_vec_len}
use Rattle.item_versions.specs.declared.item.TheConstants.{MOST_VERSIONS}
use Rattle.item_versions.proofs.item.put_from.Given as goal

-- what is there, and what is still to come
abbrev pub invariant-loop-entry : goal.invariant-loop-entry
invariant-loop-entry l = record {
  same : l.held.items ++ l.entry-iterator ≡ l.initial.held.items ++ l.fn.raised.items;
  room : array_vec_len l.held + length l.entry-iterator ≤ MOST_VERSIONS;
}
