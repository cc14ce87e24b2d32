use Rattle.std.proofs.Common.{◌∙◌, None}
use Rattle.tree_home.proofs.Ascending.{ascends}
use Rattle.tree_home.proofs.Entries.{changed, found}
use Rattle.tree_home.proofs.tree_map.remove.Goals as goal

pub returns-clause-value : goal.returns-clause-value
returns-clause-value g c = c.remove.ensures.value ∙ found c.args.tree c.args.map.now.entries

pub returns-clause-removed : goal.returns-clause-removed
returns-clause-removed g c =
    changed c.args.tree None c.args.map.now.entries c.remove.new.self.entries c.remove.ensures.updates.0

pub returns-clause-ascending : goal.returns-clause-ascending
returns-clause-ascending g c = ascends c.remove.new.self.entries c.remove.ensures.ordered
