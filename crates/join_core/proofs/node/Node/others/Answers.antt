use Rattle.std.proofs.Common.{rules, ◌≡◌, List, subst, sym}
use Rattle.std.specs.List.{remove}
use Rattle.bgp_core.specs.declared.pattern.Pattern.{Pattern}
use Rattle.join_core.specs.Nodes.{NodeData}
use Rattle.request_plan.specs.Plans.{HavePlacesFor}
use Rattle.request_plan.proofs.Valid.{places-remove}
use Rattle.join_core.proofs.node.Node.others.Goals as goal

pub returns-clause-places : goal.returns-clause-places
returns-clause-places c =
    let own : HavePlacesFor c.args.self.now.rest c.args.self.now.rows = subst (λ (n : NodeData). HavePlacesFor n.rest n.rows) c.self.view_is c.self.invariant.0 in
    let value : c.in_ok-rest.rest.value ≡ remove c.args.self.now.rest c.args.index = search rules in
    subst (λ (l : List Pattern). HavePlacesFor l c.args.self.now.rows) (sym value) (places-remove c.args.self.now.rest c.args.self.now.rows c.args.index own)
