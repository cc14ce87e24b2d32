use Rattle.tree_home.proofs.Gathered.{missing_in-noted}
use Rattle.tree_home.proofs.Always.{misses-begun, all-missing, misses-others}
use Rattle.tree_home.proofs.laws.what_is_missing.Goals as goal

pub returns : goal.returns
returns c = record {
  begun = misses-begun;
  all = all-missing;
  others = misses-others;
  one_fewer = missing_in-noted;
}
