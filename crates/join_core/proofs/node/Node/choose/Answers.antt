use Rattle.std.proofs.Common.{◌≡◌, ◌<◌, length, map, ◌∙◌, ap, sym, subst, get_or, arith}
use Rattle.request_plan.specs.Blocks.{forms_cut}
use Rattle.request_plan.specs.Plans.{least, HavePlacesFor}
use Rattle.join_core.specs.Nodes.{NodeData, IsAsking, count_of}
use Rattle.join_core.specs.Events.{IsChosen, IsChosenIn}
use Rattle.join_core.specs.Shown.{stage_of, IsMadeStage}
use Rattle.join_core.specs.declared.node.Progress.{Progress}
use Rattle.join_core.specs.Levels.{seed_node}
use Rattle.request_plan.proofs.Valid.{places-found}
use Rattle.join_core.proofs.node.Node.choose.Goals as goal

pub made_first_held-requires-clause-chosen : goal.made_first_held-requires-clause-chosen
made_first_held-requires-clause-chosen c =
    let made : IsAsking c.self.inside.rows c.self.inside.rest.value c.in-Asks.firsts.items = subst (λ (s : Progress). IsMadeStage c.self.inside.rows c.self.inside.rest.value (stage_of s)) c.in-Asks.is c.self.invariant.1 in
    let below : c.least_count-index.result < length c.self.inside.rest.value = omega (arith, made.within) in
    places-found c.self.inside.rest.value c.self.inside.rows c.least_count-index.result c.at.result.now.value c.self.invariant.0 below
    (λ p e. c.at.ensures p (e ∙ ap (λ l. get_or l c.least_count-index.result p) (sym c.deref-2.ensures)))

pub returns-then-index-len-clause-chosen : goal.returns-then-index-len-clause-chosen
returns-then-index-len-clause-chosen c =
    let e : c.least_count-index.result ≡ least (map count_of c.in-Asks.firsts.items) = c.least_count-index.ensures.value ∙ ap (λ l. least (map count_of l)) c.deref.ensures.value in
    let r = c.nothing-then-index-len.result in
    subst (λ (n : NodeData). IsChosen (forms_cut c.args.cut.now.forms c.args.cut.now.block) n (map seed_node r.opened.items) r.rows.items r.after) c.self.view_is
    (subst (λ (s : Progress). IsChosenIn (forms_cut c.args.cut.now.forms c.args.cut.now.block) c.self.inside.rows c.self.inside.rest.value (stage_of s) (map seed_node r.opened.items) r.rows.items r.after) (sym c.in-Asks.is) (λ p page h x y. absurd (omega (arith, h, e))))

pub made_first_held-requires-clause-places : goal.made_first_held-requires-clause-places
made_first_held-requires-clause-places c = subst (λ (n : NodeData). HavePlacesFor c.in_ok-rest.rest.value n.rows) (sym c.self.view_is) c.in_ok-rest.ensures.places
