use Rattle.tree_home.proofs.Gathered.{home_in-noted}
use Rattle.tree_home.proofs.Always.{begun-there, forgotten-gone, forgotten-begun}
use Rattle.tree_home.proofs.laws.a_tree_comes_and_goes.Goals as goal

pub returns : goal.returns
returns c = record {
  begun = begun-there;
  noted = home_in-noted;
  forgotten = forgotten-gone;
  back = forgotten-begun;
}
