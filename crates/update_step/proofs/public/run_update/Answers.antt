use Rattle.update_step.proofs.public.run_update.Goals as goal

pub returns-clause-row : goal.returns-clause-row
returns-clause-row c = rw (c.replace.ensures.value, c.replace-2.ensures.value, c.replace-3.ensures.value) at
    c.step_update-step.ensures.row
