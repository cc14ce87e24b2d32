use Rattle.tree_step.proofs.refusals.Refusals.take_out.Goals as goal

pub returns : goal.returns
returns c = rw (← c.self.view_is) c.remove.ensures.removed
