use Rattle.std.proofs.Common.{length}
use Rattle.bgp_core.specs.Queries.{HasPlacesFor}
use Rattle.request_plan.proofs.Expanding.{first-has}
use Rattle.request_plan.proofs.found.add_triple.Goals as goal

pub add_extension-requires : goal.add_extension-requires
add_extension-requires c = first-has (λ row. HasPlacesFor (length row) c.args.chosen.now) c.args.block.now c.first.result.now c.requires c.first.ensures
