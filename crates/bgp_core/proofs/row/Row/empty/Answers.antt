use Rattle.std.proofs.Common.{map, ap, ◌∙◌}
use Rattle.bgp_core.specs.Rows.{bound_pair, places_from}
use Rattle.bgp_core.proofs.Places.{places-empty}
use Rattle.bgp_core.proofs.row.Row.empty.Goals as goal

pub returns : goal.returns
returns c = ap (λ l. places_from 0 c.args.names (map bound_pair l)) c.new.ensures.items ∙ places-empty 0 c.args.names
