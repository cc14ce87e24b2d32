use Rattle.tree_home.proofs.Ascending.{same_entries}
use Rattle.tree_home.proofs.laws.entries_are_their_trees.Goals as goal

pub returns : goal.returns
returns c = record {
  opened = same_entries;
  held = same_entries;
}
