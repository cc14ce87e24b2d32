use Rattle.tree_home.proofs.homes.Homes.take_back.Goals as goal

pub returns-clause-held : goal.returns-clause-held
returns-clause-held c = rw (← c.self.view_is) c.remove.ensures.removed
