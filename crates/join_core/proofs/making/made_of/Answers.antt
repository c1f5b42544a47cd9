-- What the page makes is what its calls give, one after another.
use Rattle.std.proofs.Common.{◌≡◌, List, length, map, ◌++◌, ap, sym, subst, ◌∙◌}
use Rattle.std.specs.List.{All}
use Rattle.rdf_terms.specs.declared.term.Triple.{Triple}
use Rattle.bgp_core.specs.declared.pattern.Pattern.{Pattern}
use Rattle.bgp_core.specs.Queries.{HasPlacesFor}
use Rattle.bgp_core.specs.Solutions.{Places}
use Rattle.request_plan.specs.Blocks.{forms_cut}
use Rattle.request_plan.specs.Plans.{found, HavePlacesFor}
use Rattle.join_core.specs.Nodes.{opened, nodes_in, rows_out}
use Rattle.join_core.specs.Events.{next_walk}
use Rattle.join_core.specs.Levels.{Seed, seed_node}
use Rattle.request_plan.proofs.Valid.{found-places}
use Rattle.join_core.proofs.Outs.{made-idle}
use Rattle.std.proofs.lemmas.Result.{IfOk-from_err}
use Rattle.join_core.proofs.making.made_of.Goals as goal

pub expand-requires : goal.expand-requires
expand-requires c =
    subst (λ (p : Pattern). All (λ row. HasPlacesFor (length row) p) c.args.rows.now) (sym c.deref.ensures) c.requires.chosen

pub add_rows-requires : goal.add_rows-requires
add_rows-requires c =
    let e : c.in-Ok.found.items ≡ found c.args.chosen.now.value c.args.rows.now c.args.page.triples = c.in-Ok.ensures ∙ ap (λ (p : Pattern). found p c.args.rows.now c.into_vec.result.items) c.deref.ensures ∙ ap (λ (l : List Triple). found c.args.chosen.now.value c.args.rows.now l) c.into_vec.ensures in
    subst (λ (l : List Places). HavePlacesFor c.args.rest.now.value l) (sym e) (found-places c.args.rest.now.value c.args.chosen.now.value c.args.rows.now c.args.page.triples c.requires.places)

pub walk_on-requires-clause-places : goal.walk_on-requires-clause-places
walk_on-requires-clause-places c = c.requires.places

pub walk_on-requires-clause-chosen : goal.walk_on-requires-clause-chosen
walk_on-requires-clause-chosen c = c.requires.chosen

pub returns-in_err-after-clause-opened : goal.returns-in_err-after-clause-opened
returns-in_err-after-clause-opened c = IfOk-from_err _ _ c.from_residual.ensures.0

pub returns-in_err-after-clause-rows : goal.returns-in_err-after-clause-rows
returns-in_err-after-clause-rows c = IfOk-from_err _ _ c.from_residual.ensures.0

pub returns-in_err-after-clause-after : goal.returns-in_err-after-clause-after
returns-in_err-after-clause-after c = IfOk-from_err _ _ c.from_residual.ensures.0

pub returns-in_err-after-clause-idle : goal.returns-in_err-after-clause-idle
returns-in_err-after-clause-idle c = IfOk-from_err _ _ c.from_residual.ensures.0

pub returns-clause-opened : goal.returns-clause-opened
returns-clause-opened c =
    let e : c.in-Ok.found.items ≡ found c.args.chosen.now.value c.args.rows.now c.args.page.triples = c.in-Ok.ensures ∙ ap (λ (p : Pattern). found p c.args.rows.now c.into_vec.result.items) c.deref.ensures ∙ ap (λ (l : List Triple). found c.args.chosen.now.value c.args.rows.now l) c.into_vec.ensures in
    c.in-Ok-add_rows.ensures.nodes ∙ ap (λ (l : List Seed). map seed_node l ++ nodes_in (forms_cut c.args.cut.now.forms c.args.cut.now.block) c.args.rest.now.value c.in-Ok.found.items) c.new-opened.ensures.items ∙ ap (λ (l : List Places). nodes_in (forms_cut c.args.cut.now.forms c.args.cut.now.block) c.args.rest.now.value l) e

pub returns-clause-rows : goal.returns-clause-rows
returns-clause-rows c =
    let e : c.in-Ok.found.items ≡ found c.args.chosen.now.value c.args.rows.now c.args.page.triples = c.in-Ok.ensures ∙ ap (λ (p : Pattern). found p c.args.rows.now c.into_vec.result.items) c.deref.ensures ∙ ap (λ (l : List Triple). found c.args.chosen.now.value c.args.rows.now l) c.into_vec.ensures in
    c.in-Ok-add_rows.ensures.rows ∙ ap (λ (l : List Places). l ++ rows_out c.args.rest.now.value c.in-Ok.found.items) c.new-out.ensures.items ∙ ap (λ (l : List Places). rows_out c.args.rest.now.value l) e

pub returns-clause-after : goal.returns-clause-after
returns-clause-after c = c.in_ok-after.ensures

pub returns-clause-idle : goal.returns-clause-idle
returns-clause-idle c =
    let cut = forms_cut c.args.cut.now.forms c.args.cut.now.block in
    let e : c.in-Ok.found.items ≡ found c.args.chosen.now.value c.args.rows.now c.args.page.triples = c.in-Ok.ensures ∙ ap (λ (p : Pattern). found p c.args.rows.now c.into_vec.result.items) c.deref.ensures ∙ ap (λ (l : List Triple). found c.args.chosen.now.value c.args.rows.now l) c.into_vec.ensures in
    let m : map seed_node c.add_rows.new.nodes.items ≡ opened cut c.args.chosen.now.value c.args.rest.now.value c.args.rows.now c.args.page.triples = c.in-Ok-add_rows.ensures.nodes ∙ ap (λ (l : List Seed). map seed_node l ++ nodes_in (forms_cut c.args.cut.now.forms c.args.cut.now.block) c.args.rest.now.value c.in-Ok.found.items) c.new-opened.ensures.items ∙ ap (λ (l : List Places). nodes_in (forms_cut c.args.cut.now.forms c.args.cut.now.block) c.args.rest.now.value l) e in
    let a : c.in_ok-after.after ≡ next_walk c.args.chosen.now.value c.args.rest.now.value c.args.rows.now c.args.pages c.args.page.next = c.in_ok-after.ensures in
    made-idle cut c.args.chosen.now.value c.args.rest.now.value c.args.rows.now c.args.pages c.args.page.triples c.args.page.next _ _ m a
