-- Each turn adds the labels of one quad.
use Rattle.std.proofs.Common.{List, ap, ◌∙◌}
use Rattle.std.specs.List.{filter_map}
use Rattle.std.proofs.lemmas.List.{take_all}
use Rattle.std.proofs.lemmas.Result.{IfOk-from_err}
use Rattle.rdf_terms.specs.declared.term.Quad.{Quad}
use Rattle.triple_table.specs.Chosen.{chosen}
use Rattle.triple_table.specs.Labels.{label_of, texts}
use Rattle.triple_table.specs.Served.{terms_of}
use Rattle.triple_table.proofs.Steps.{labels_more}
use Rattle.triple_table.proofs.labels.all_labels.Goals as goal

pub loop-quad-init : goal.loop-quad-init
loop-quad-init c = ap texts c.new-labels.ensures.items

pub returns-in_err-push_chosen : goal.returns-in_err-push_chosen
returns-in_err-push_chosen c = IfOk-from_err _ _ c.from_residual.ensures.0

pub loop-quad-preserved : goal.loop-quad-preserved
loop-quad-preserved c =
    c.in_ok-push_chosen.ensures
    ∙ labels_more label_of _ c.args.choice.now c.args.quads.now c.loop-quad.quad-index c.quad-item.result c.loop-quad-test.true c.quad-item.is c.loop-quad.invariant

pub returns : goal.returns
returns c = c.loop-quad.invariant ∙ ap (λ (quads : List Quad). filter_map label_of (terms_of (chosen c.args.choice.now quads))) (take_all _ _ c.loop-quad-test.false)
