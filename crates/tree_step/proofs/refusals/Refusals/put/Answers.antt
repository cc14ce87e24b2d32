use Rattle.tree_step.proofs.refusals.Refusals.put.Goals as goal

pub returns-clause-ok : goal.returns-clause-ok
returns-clause-ok c = rw (← c.self.view_is) c.in_ok-insert.ensures.ok
