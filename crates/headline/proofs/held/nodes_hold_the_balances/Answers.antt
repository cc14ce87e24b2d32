use Rattle.headline.proofs.Settled.{settled}
use Rattle.headline.proofs.held.nodes_hold_the_balances.Goals as goal

pub returns : goal.returns
returns c = settled
