use Rattle.commute_ops.proofs.Orders.{is_free_of_order}
use Rattle.commute_ops.proofs.laws.any_order_gives_the_same.Goals as goal

pub returns : goal.returns
returns g c = is_free_of_order
