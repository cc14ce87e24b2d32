use Rattle.run_laws.proofs.items.WrittenAtEnd.{ends_written}
use Rattle.run_laws.proofs.held.what_is_written_at_the_end.Goals as goal

pub returns : goal.returns
returns c = λ s past valid run p x whole. ends_written s past p x valid run whole
