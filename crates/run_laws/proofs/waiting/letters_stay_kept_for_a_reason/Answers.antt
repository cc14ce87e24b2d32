use Rattle.run_laws.proofs.keeping.KeptWhy.{letters_stay_kept}
use Rattle.run_laws.proofs.waiting.letters_stay_kept_for_a_reason.Goals as goal

pub returns : goal.returns
returns c = λ s past p valid run lt. letters_stay_kept s past p valid run lt
