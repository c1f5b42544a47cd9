use Rattle.bgp_core.proofs.Orders.{solutions-IsPermutation}
use Rattle.definition_laws.proofs.solutions.triple_order_is_free.Goals as goal

pub returns : goal.returns
returns c = solutions-IsPermutation
