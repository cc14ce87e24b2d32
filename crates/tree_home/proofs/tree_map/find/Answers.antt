use Rattle.std.proofs.Common.{◌∙◌}
use Rattle.tree_home.proofs.Entries.{found}
use Rattle.tree_home.proofs.tree_map.find.Goals as goal

pub returns : goal.returns
returns g c = c.get.ensures.value ∙ found c.args.tree c.args.map.now.entries
