use Rattle.run_laws.proofs.ending.Ends.{nothing_kept}
use Rattle.run_laws.proofs.stalls.nothing_is_kept_at_the_end.Goals as goal

pub returns : goal.returns
returns c = λ s past valid run empty p lt. nothing_kept s past p valid run empty lt
