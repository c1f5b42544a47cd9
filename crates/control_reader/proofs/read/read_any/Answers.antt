use Rattle.std.proofs.Common.{subst, List}
use Rattle.rdf_terms.specs.declared.term.Quad.{Quad}
use Rattle.page_controls.specs.Outcomes.{IsFaultOf}
use Rattle.page_controls.specs.Stages.{TakesPage, WhyNoPage}
use Rattle.control_reader.proofs.Pages.{page_fault, data_fault}
use Rattle.control_reader.proofs.read.read_any.Goals as goal

pub returns-in-Err-read_controls : goal.returns-in-Err-read_controls
returns-in-Err-read_controls c =
    page_fault c.args.body.now c.args.address.now c.in-Ok.quads.items c.in-Err-read_controls.fault c.in-Ok.ensures
    (subst (λ (q : List Quad). IsFaultOf (WhyNoPage q c.args.address.now) c.in-Err-read_controls.fault) c.as_slice.ensures.value c.in-Err-read_controls.ensures)

pub returns-in-Err-take_triples : goal.returns-in-Err-take_triples
returns-in-Err-take_triples c =
    data_fault c.args.body.now c.args.address.now c.in-Ok.quads.items c.in-Ok-read_controls.parts.told c.in-Err-take_triples.fault c.in-Ok.ensures
    (subst (λ (q : List Quad). TakesPage q c.args.address.now c.in-Ok-read_controls.parts.told) c.as_slice.ensures.value c.in-Ok-read_controls.ensures.0)
    c.in-Err-take_triples.ensures
