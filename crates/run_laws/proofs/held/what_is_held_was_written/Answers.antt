use Rattle.run_laws.proofs.items.HeldWritten.{holds_written}
use Rattle.run_laws.proofs.held.what_is_held_was_written.Goals as goal

pub returns : goal.returns
returns c = λ s past valid run p x lt. holds_written s past p x valid run lt
