use Rattle.std.proofs.Common.{rules, ◌≡◌, List, length, sym, subst}
use Rattle.std.specs.List.{All}
use Rattle.bgp_core.specs.declared.pattern.Pattern.{Pattern}
use Rattle.bgp_core.specs.Solutions.{Places}
use Rattle.bgp_core.specs.Queries.{HasPlacesFor}
use Rattle.request_plan.specs.Plans.{HavePlacesFor}
use Rattle.join_core.proofs.node.walking.Goals as goal

pub invariant_of-result : goal.invariant_of-result
invariant_of-result c =
    let rows : c.in-Ok.rows ≡ c.args.rows.now = search rules in
    let rest : c.in-Ok.rest.value ≡ c.args.rest.now.value = search rules in
    let chosen : c.in-Ok.chosen.value ≡ c.args.chosen.now.value = search rules in (
      subst (λ (l : List Pattern). HavePlacesFor l c.in-Ok.rows) (sym rest) (subst (λ (l : List Places). HavePlacesFor c.args.rest.now.value l) (sym rows) c.requires.places),
      subst (λ (p : Pattern). All (λ row. HasPlacesFor (length row) p) c.in-Ok.rows) (sym chosen) (subst (λ (l : List Places). All (λ row. HasPlacesFor (length row) c.args.chosen.now.value) l) (sym rows) c.requires.chosen),
    )
