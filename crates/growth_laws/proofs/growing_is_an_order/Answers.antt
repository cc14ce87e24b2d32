use Rattle.growth_laws.proofs.Orders.{growing_is_an_order}
use Rattle.growth_laws.proofs.growing_is_an_order.Goals as goal

pub returns : goal.returns
returns c = growing_is_an_order
