use Rattle.std.proofs.Common.{map, ap, ◌∙◌}
use Rattle.bgp_core.specs.Rows.{bound_pair}
use Rattle.bgp_core.specs.Pairs.{kept_pairs}
use Rattle.bgp_core.proofs.Merging.{kept-is}
use Rattle.bgp_core.proofs.row.Row.kept.Goals as goal

pub returns : goal.returns
returns c =
    kept-is c.self.inside.names c.args.keep.now (map bound_pair c.self.inside.bound.items) (map bound_pair c.in_ok-bound.bound.items) c.args.self.now c.self.view_is
    (c.in_ok-bound.ensures ∙ ap (λ l. kept_pairs c.args.keep.now (map bound_pair l)) c.as_slice.ensures.value)
