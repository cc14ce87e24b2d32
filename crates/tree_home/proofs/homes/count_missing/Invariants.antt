use Rattle.std.proofs.Common.{◌≡◌, ◌+◌, ◌≤◌, drop}
use Rattle.tree_home.specs.Homes.{missing_count}
use Rattle.tree_home.proofs.homes.count_missing.Given as goal

abbrev pub invariant-loop-k : goal.invariant-loop-k
invariant-loop-k l = record {
  count : l.missing + missing_count (drop l.k l.opened.notices) ≡ missing_count l.opened.notices;
  few : l.missing ≤ l.k;
}
