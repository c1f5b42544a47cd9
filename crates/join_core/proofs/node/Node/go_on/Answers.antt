use Rattle.std.proofs.Common.{◌<◌, length, ◌∙◌, ap, sym, subst, get_or}
use Rattle.join_core.specs.Nodes.{NodeData}
use Rattle.request_plan.specs.Plans.{HavePlacesFor}
use Rattle.request_plan.proofs.Valid.{places-found}
use Rattle.join_core.proofs.node.Node.go_on.Goals as goal

pub made_of-requires-clause-chosen : goal.made_of-requires-clause-chosen
made_of-requires-clause-chosen c =
    let below : c.args.index < length c.self.inside.rest.value = subst (λ (n : NodeData). c.args.index < length n.rest) (sym c.self.view_is) c.requires in
    places-found c.self.inside.rest.value c.self.inside.rows c.args.index c.at.result.now.value c.self.invariant.0 below
    (λ p e. c.at.ensures p (e ∙ ap (λ l. get_or l c.args.index p) (sym c.deref.ensures)))

pub made_of-requires-clause-places : goal.made_of-requires-clause-places
made_of-requires-clause-places c = subst (λ (n : NodeData). HavePlacesFor c.in-Ok.rest.value n.rows) (sym c.self.view_is) c.in-Ok.ensures.places
