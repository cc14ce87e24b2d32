use Rattle.run_laws.proofs.keeping.ParksOnce.{letters_park_once}
use Rattle.run_laws.proofs.waiting.letters_park_once.Goals as goal

pub returns : goal.returns
returns c = λ s past t k h valid run. letters_park_once s past t k h valid run
