-- The control triples so far are those of the quads so far, and of one more.
use Rattle.std.proofs.Common.{◌∙◌, ap, List, arith}
use Rattle.std.specs.List.{filter_map}
use Rattle.std.proofs.lemmas.Result.{IfOk-from_err}
use Rattle.rdf_terms.specs.declared.term.Quad.{Quad}
use Rattle.control_triples.specs.Parts.{borrowed_triples, control_of}
use Rattle.control_triples.proofs.Controlled.{graphs_are}
use Rattle.control_triples.proofs.Steps.{listed_or_not, all_taken}
use Rattle.control_triples.proofs.controls.controls_in.Goals as goal

pub returns-in_err-graphs : goal.returns-in_err-graphs
returns-in_err-graphs c = IfOk-from_err _ _ c.from_residual.ensures.0

pub loop-quad-init : goal.loop-quad-init
loop-quad-init c = ap borrowed_triples c.new-controls.ensures.items

pub returns-in_err-add_control : goal.returns-in_err-add_control
returns-in_err-add_control c = IfOk-from_err _ _ c.from_residual-in_err-add_control.ensures.0

pub loop-quad-preserved : goal.loop-quad-preserved
loop-quad-preserved c =
    let all = c.args.quads.now in
    let q = c.quad-item.result in
    let topic = c.args.topic.now in
    listed_or_not (control_of all topic) all c.loop-quad.quad-index q _ _ c.loop-quad-test.true c.quad-item.is c.loop-quad.invariant
    (c.in_ok-add_control.ensures all topic (λ graph. c.in_ok-graphs.ensures graph ∙ graphs_are all c.args.topics.now topic graph c.requires))

pub returns : goal.returns
returns c =
    c.loop-quad.invariant
    ∙ ap (λ (l : List Quad). filter_map (control_of c.args.quads.now c.args.topic.now) l) (all_taken c.args.quads.now c.loop-quad.quad-index (omega (arith, c.loop-quad-test.false)))
