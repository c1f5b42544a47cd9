use Rattle.std.proofs.Common.{[], ◌∷◌}
use Rattle.std.specs.Prelude.{codes}
use Rattle.rdf_terms.specs.declared.term.Term.TheVariants.{Iri}
use Rattle.template_fill.specs.Metadata.{graph_at, hydra}
use Rattle.hydra_controls.specs.Facts.{addresses_on}
use Rattle.hydra_controls.proofs.LineRows.{iri_line, iri_stands}
use Rattle.hydra_controls.proofs.facts.PageFacts.previous_line.Goals as goal

pub returns : goal.returns
unfolding hydra
returns c =
    let addresses = addresses_on c.args.self in
    iri_line (graph_at addresses) addresses.page (60 ∷ []) addresses.previous (62 ∷ []) (hydra (codes "previous")) (Iri addresses.previous) _ _ _ (iri_stands addresses.previous)
    c.page_then-page.ensures c.page_then-previous.ensures c.line_of.ensures
