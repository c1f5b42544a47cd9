use Rattle.std.proofs.Common.{[], ◌∷◌}
use Rattle.std.specs.Prelude.{codes}
use Rattle.rdf_terms.specs.declared.term.Term.TheVariants.{Iri}
use Rattle.template_fill.specs.Metadata.{graph_at, hydra}
use Rattle.hydra_controls.specs.Facts.{addresses_on}
use Rattle.hydra_controls.proofs.LineRows.{iri_line, iri_stands}
use Rattle.hydra_controls.proofs.facts.PageFacts.next_line.Goals as goal

pub returns : goal.returns
unfolding hydra
returns c =
    let addresses = addresses_on c.args.self in
    iri_line (graph_at addresses) addresses.page (60 ∷ []) addresses.next (62 ∷ []) (hydra (codes "next")) (Iri addresses.next) _ _ _ (iri_stands addresses.next)
    c.page_then-page.ensures c.page_then-next.ensures c.line_of.ensures
