use Rattle.tree_laws.proofs.conflicts.AtHome.{acts_at_home}
use Rattle.tree_laws.proofs.locks.acts_are_at_home.Goals as goal

pub returns : goal.returns
returns c = acts_at_home
