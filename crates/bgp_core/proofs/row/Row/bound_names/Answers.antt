use Rattle.std.proofs.Common.{map, ap, ◌∙◌}
use Rattle.bgp_core.specs.Rows.{bound_pair}
use Rattle.bgp_core.specs.Pairs.{names_below}
use Rattle.bgp_core.proofs.Merging.{names-are}
use Rattle.bgp_core.proofs.row.Row.bound_names.Goals as goal

pub returns : goal.returns
returns c =
    names-are c.self.inside.names (map bound_pair c.self.inside.bound.items) c.args.self.now c.in_ok-names.names.items c.self.view_is
    (c.in_ok-names.ensures ∙ ap (λ l. names_below c.self.inside.names (map bound_pair l)) c.as_slice.ensures.value)
