use Rattle.std.proofs.Common.{◌≡◌, ◌++◌, map, ap, ◌∙◌}
use Rattle.bgp_core.specs.Rows.{bound_pair}
use Rattle.bgp_core.specs.Pairs.{unbound_in}
use Rattle.bgp_core.proofs.Merging.{merged-is}
use Rattle.bgp_core.proofs.row.Row.merged.Goals as goal

pub returns : goal.returns
returns c =
    let own = map bound_pair c.self.inside.bound.items in
    let other = map bound_pair c.other.inside.bound.items in
    let all : map bound_pair c.add_all.new.to.items ≡ own =
    c.in_ok-add_all.ensures ∙ ap (λ l. map bound_pair l ++ map bound_pair c.as_slice.result.now) c.in_ok-bound.ensures.items ∙ ap (λ l. map bound_pair l) c.as_slice.ensures.value in
    let both : map bound_pair c.add_unbound.new.to.items ≡ own ++ unbound_in c.args.self.now other =
    c.in_ok-add_unbound.ensures ∙ ap (λ l. l ++ unbound_in c.args.self.now (map bound_pair c.as_slice-2.result.now)) all ∙ ap (λ l. own ++ unbound_in c.args.self.now (map bound_pair l)) c.as_slice-2.ensures.value in
    merged-is c.self.inside.names c.other.inside.names own other (map bound_pair c.add_unbound.new.to.items) c.args.self.now c.args.other.now c.self.view_is c.other.view_is c.requires both
