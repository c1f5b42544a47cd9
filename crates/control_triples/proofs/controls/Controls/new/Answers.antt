use Rattle.std.proofs.Common.{◌≡◌, sym, ap, ◌∙◌}
use Rattle.rdf_terms.specs.declared.term.Term.{Term}
use Rattle.rdf_terms.specs.declared.term.Term.TheVariants.{Iri}
use Rattle.control_triples.specs.Parts.{iri_text}
use Rattle.control_triples.proofs.controls.Controls.new.Goals as goal

pub invariant_of-result : goal.invariant_of-result
invariant_of-result c =
    let t = c.args.topic.now in let e = c.requires.topic.1 in
    let is : t ≡ Iri (iri_text t) = e ∙ ap (λ (x : Term). Iri (iri_text x)) (sym e) in
    (is, c.sorted_controls-triples.ensures c.args.quads.now t (iri_text t) c.requires.triples is)
