use Rattle.std.proofs.Common.{Some}
use Rattle.tree_home.proofs.Ascending.{ascends}
use Rattle.tree_home.proofs.Entries.{changed}
use Rattle.tree_home.proofs.tree_map.insert.Goals as goal

pub returns-in-Ok-clause-ok : goal.returns-in-Ok-clause-ok
returns-in-Ok-clause-ok g c =
    changed c.args.tree (Some c.args.value) c.args.map.now.entries c.insert.new.self.entries c.in-Ok.ensures.updates.0

pub returns-in-Ok-clause-ascending : goal.returns-in-Ok-clause-ascending
returns-in-Ok-clause-ascending g c = ascends c.insert.new.self.entries c.insert.ensures.ordered

pub returns-in-Ok-clause-was_ascending : goal.returns-in-Ok-clause-was_ascending
returns-in-Ok-clause-was_ascending g c = ascends c.args.map.now.entries c.insert.ensures.was_ordered

pub returns-clause-ascending : goal.returns-clause-ascending
returns-clause-ascending g c = ascends c.insert.new.self.entries c.insert.ensures.ordered

pub returns-clause-was_ascending : goal.returns-clause-was_ascending
returns-clause-was_ascending g c = ascends c.args.map.now.entries c.insert.ensures.was_ordered
