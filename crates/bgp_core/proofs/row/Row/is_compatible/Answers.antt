use Rattle.std.proofs.Common.{map, ap, ◌∙◌}
use Rattle.bgp_core.specs.Rows.{bound_pair}
use Rattle.bgp_core.specs.Pairs.{all_agree}
use Rattle.bgp_core.proofs.Merging.{compatible-is}
use Rattle.bgp_core.proofs.row.Row.is_compatible.Goals as goal

pub returns : goal.returns
returns c =
    c.all_agree.ensures ∙ ap (λ l. all_agree c.args.self.now c.args.other.now (map bound_pair l)) c.as_slice.ensures.value ∙
    compatible-is c.other.inside.names (map bound_pair c.other.inside.bound.items) c.args.self.now c.args.other.now c.other.view_is
