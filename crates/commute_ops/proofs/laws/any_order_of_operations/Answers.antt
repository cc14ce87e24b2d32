use Rattle.commute_ops.proofs.Orders.{values_are_free_of_order}
use Rattle.commute_ops.proofs.laws.any_order_of_operations.Goals as goal

pub returns : goal.returns
returns c = values_are_free_of_order
