use Rattle.std.proofs.Common.{length, map, ap, sym, ◌∙◌}
use Rattle.bgp_core.specs.Rows.{bound_pair}
use Rattle.bgp_core.proofs.Places.{places-length}
use Rattle.bgp_core.proofs.row.Row.len.Goals as goal

pub returns : goal.returns
returns c = sym (places-length 0 c.self.inside.names (map bound_pair c.self.inside.bound.items)) ∙ ap length c.self.view_is
