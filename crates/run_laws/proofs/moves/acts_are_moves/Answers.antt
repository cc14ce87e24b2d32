use Rattle.run_laws.proofs.act_order.AllMoves.{moves_but_cause}
use Rattle.run_laws.proofs.moves.acts_are_moves.Goals as goal

pub returns : goal.returns
returns c = λ s past valid run. moves_but_cause s past valid run
