use Rattle.board_rules.proofs.Judging.{accepted_last, accepted_more}
use Rattle.board_rules.proofs.laws.one_entry_more_is_accepted.Goals as goal

pub returns : goal.returns
returns c = λ s h e all. ((λ longer. accepted_last s h e longer), (λ may. accepted_more s h e all may))
