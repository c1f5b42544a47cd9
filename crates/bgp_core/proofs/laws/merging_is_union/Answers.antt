use Rattle.bgp_core.proofs.Merging.{merging-union}
use Rattle.bgp_core.proofs.laws.merging_is_union.Goals as goal

pub returns : goal.returns
returns c = merging-union
