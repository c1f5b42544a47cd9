use Rattle.row_algebra.proofs.Orders.{order-free}
use Rattle.row_algebra.proofs.laws.order_is_free.Goals as goal

pub returns : goal.returns
returns c = order-free
