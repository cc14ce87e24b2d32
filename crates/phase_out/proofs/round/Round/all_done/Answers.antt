use Rattle.phase_out.proofs.Verdicts.{in-each}
use Rattle.phase_out.proofs.round.Round.all_done.Goals as goal

pub returns-clause-each : goal.returns-clause-each
returns-clause-each c = rw (c.all_in.ensures, c.items.ensures.items, ← c.self.view_is) (in-each _)
