use Rattle.tree_home.proofs.homes.Homes.hold.Goals as goal

pub returns-clause-ok : goal.returns-clause-ok
returns-clause-ok c = rw (← c.self.view_is) c.hold_answer.ensures.ok
