use Rattle.std.proofs.Common.{◌≡◌, ◌+◌, ◌≤◌, ◌++◌, take, drop, length, IsTrue}
use Rattle.item_versions.specs.declared.item.TheConstants.{MOST_VERSIONS}
use Rattle.item_versions.specs.Item.{above, applied_to_all, may_apply_above, has_bag}
use Rattle.arrayvec.specs.ArrayVec.{array_vec_len}
use Rattle.item_versions.proofs.item.push_above.Given as goal

abbrev pub invariant-loop-entry : goal.invariant-loop-entry
invariant-loop-entry l = record {
  pushed : l.held.items ≡ l.initial.held.items ++ applied_to_all l.op (above l.v (take l.entry-index l.items));
  can : IsTrue (may_apply_above l.v l.op (drop l.entry-index l.items));
  room : array_vec_len l.held + length (above l.v (drop l.entry-index l.items)) ≤ MOST_VERSIONS;
  bags : IsTrue (has_bag (drop l.entry-index l.items)) → IsTrue (has_bag l.items);
}
